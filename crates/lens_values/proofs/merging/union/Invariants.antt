use Rattle.std.proofs.Common.{length, drop, ◌-◌, ◌+◌, ◌≡◌, ◌++◌, ◌≤◌}
use Rattle.plain_values.proofs.Common.{on}
use Rattle.lens_values.proofs.Walks.{merge}
use Rattle.lens_values.proofs.merging.union.Given as goal

abbrev pub invariant-loop-i : goal.invariant-loop-i
invariant-loop-i g l = record {
  left_in_range : l.i ≤ length l.left;
  right_in_range : l.j ≤ length l.right;
  so_far : l.all.items ++ merge (on g.T.Keyed.key g.K.Ord.cmp) (drop l.i l.left) (drop l.j l.right) ≡ merge (on g.T.Keyed.key g.K.Ord.cmp) l.left l.right;
}

abbrev pub decreases-loop-i : goal.decreases-loop-i
decreases-loop-i g l = (length l.left - l.i) + (length l.right - l.j)
