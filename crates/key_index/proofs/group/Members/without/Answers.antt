use Rattle.std.proofs.Common.{ap, sym, ◌∙◌}
use Rattle.plain_values.specs.SortedSet as set
use Rattle.key_index.specs.Group.{rows_in}
use Rattle.key_index.proofs.Groups.{nothing_left}
use Rattle.key_index.proofs.group.Members.without.Goals as goal

pub returns-in-Empty : goal.returns-in-Empty
returns-in-Empty c = sym (nothing_left c.args.row.now) ∙ ap (λ members. set.remove (rows_in members) c.args.row.now) (sym c.in-Empty.is)
