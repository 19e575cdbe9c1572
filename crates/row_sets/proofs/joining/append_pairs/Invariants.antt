use Rattle.std.proofs.Common.{◌≡◌, ◌++◌, take, map}
use Rattle.plain_values.proofs.Common.{override}
use Rattle.row_sets.proofs.joining.append_pairs.Given as goal

abbrev pub invariant-loop-entry : goal.invariant-loop-entry
invariant-loop-entry l = l.pairs.items ≡ l.fn.pairs.items ++ map (λ e. override e.1 l.row) (take l.entry-index l.index)
