use Rattle.std.proofs.Common.{length, drop, ◌-◌, ◌+◌, ◌≡◌, ◌++◌, ◌≤◌, true}
use Rattle.lens_values.proofs.Walks.{kept}
use Rattle.lens_values.proofs.merging.intersection.Given as goal

abbrev pub invariant-loop-i : goal.invariant-loop-i
invariant-loop-i g l = record {
  list_in_range : l.i ≤ length l.list;
  keys_in_range : l.j ≤ length l.keys;
  so_far : l.kept.items ++ kept g.met.K.Ord.total g.T.Keyed.key true (drop l.i l.list) (drop l.j l.keys) ≡ kept g.met.K.Ord.total g.T.Keyed.key true l.list l.keys;
}

abbrev pub decreases-loop-i : goal.decreases-loop-i
decreases-loop-i g l = (length l.list - l.i) + (length l.keys - l.j)
