use Rattle.std.proofs.Common.{rules}
use Rattle.plain_values.proofs.NameLemmas.{keeps_name}
use Rattle.plain_values.proofs.name.Name.new.Goals as goal

pub invariant_of-result : goal.invariant_of-result
invariant_of-result c = rw c.front_of.ensures (rw c.copy_from_slice.ensures.after (keeps_name _ (search rules)))
