use Rattle.std.proofs.Common.{ap, sym, ◌∙◌}
use Rattle.plain_values.specs.SortedSet as set
use Rattle.key_index.specs.Group.{singleton}
use Rattle.key_index.proofs.Members.{one_again}
use Rattle.key_index.proofs.group.with_second.Goals as goal

pub returns-then-eq : goal.returns-then-eq
returns-then-eq c =
    one_again c.in_ok-one.one c.args.row (sym c.eq.ensures ∙ c.if-eq.true) ∙ ap (λ one. set.insert (singleton one) c.args.row) c.in_ok-one.ensures
