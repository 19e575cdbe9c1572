use Rattle.std.proofs.Common.{length, take, drop, ◌-◌, ◌+◌, ◌≡◌, ◌++◌, ◌≤◌}
use Rattle.plain_values.proofs.Common.{row_cmp}
use Rattle.row_sets.proofs.Walks.{rest_of}
use Rattle.edit_batches.proofs.uniting.meet.Given as goal

-- no row of the first ones so far is among the others
abbrev pub invariant-loop-i : goal.invariant-loop-i
invariant-loop-i l = record {
  in_range : l.i ≤ length l.ones;
  others_in_range : l.j ≤ length l.others;
  kept : take l.i l.ones ++ rest_of row_cmp (drop l.i l.ones) (drop l.j l.others) ≡ rest_of row_cmp l.ones l.others;
}

abbrev pub decreases-loop-i : goal.decreases-loop-i
decreases-loop-i l = (length l.ones - l.i) + (length l.others - l.j)
