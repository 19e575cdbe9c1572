use Rattle.std.proofs.Common.{ap, ◌∙◌}
use Rattle.plain_values.specs.SortedSet as set
use Rattle.lens_values.proofs.Cells.{names_are}
use Rattle.lens_values.proofs.row.Row.names.Goals as goal

pub returns : goal.returns
returns c = ap (λ cells. set.items cells.names) c.deref.ensures ∙ names_are _ _ _ c.self.invariant c.self.view_is
