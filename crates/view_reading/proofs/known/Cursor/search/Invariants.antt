use Rattle.std.proofs.Common.{◌-◌, ◌≤◌, length}
use Rattle.view_reading.proofs.known.Cursor.search.Given as goal

abbrev pub invariant-search : goal.invariant-search
invariant-search l = record {
  within : l.high ≤ length l.known;
  in_order : l.low ≤ l.high;
}

abbrev pub decreases-search : goal.decreases-search
decreases-search l = l.high - l.low
