use Rattle.std.proofs.Common.{◌∙◌, ap, sym}
use Rattle.plain_values.proofs.Common.{true≢false, row_cmp}
use Rattle.plain_values.specs.SortedSet as set
use Rattle.lens_specs.specs.Common.{has}
use Rattle.database_opening.proofs.opening.fillings.Goals as goal

pub new-delta-requires : goal.new-delta-requires
new-delta-requires c = λ row there. absurd (true≢false (sym there ∙ ap (λ M. has M row) c.empty.ensures ∙ set.contains-empty row_cmp row))
