use Rattle.std.proofs.Common.{◌≡◌, ◌++◌, map}
use Rattle.plain_values.proofs.Common.{into_iter_items, restrict}
use Rattle.view_reading.proofs.reading.parts.Given as goal

abbrev pub invariant-loop-row : goal.invariant-loop-row
invariant-loop-row l = record {
  seam : l.fn.rows.items ≡ l.yielded ++ into_iter_items l.row-iterator;
  so_far : l.parts.items ≡ map (restrict l.cols) l.yielded;
}
