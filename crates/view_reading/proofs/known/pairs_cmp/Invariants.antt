use Rattle.std.proofs.Common.{◌-◌, ◌≤◌, length, take}
use Rattle.plain_values.proofs.Common.{zip}
use Rattle.view_reading.specs.KnownRows.{AreAmong}
use Rattle.view_reading.proofs.known.pairs_cmp.Given as goal

abbrev pub invariant-loop-i : goal.invariant-loop-i
invariant-loop-i l = record {
  known : l.i ≤ length l.known;
  others : l.j ≤ length l.others;
  so_far : AreAmong (take l.i (zip l.known l.values)) (zip l.others l.their);
}

abbrev pub decreases-loop-i : goal.decreases-loop-i
decreases-loop-i l = length l.others - l.j
