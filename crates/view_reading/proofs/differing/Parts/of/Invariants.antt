use Rattle.std.proofs.Common.{◌≡◌, ◌++◌, filter, map, option_map}
use Rattle.plain_values.proofs.Common.{into_iter_items, restrict}
use Rattle.view_reading.specs.KnownRows.{AreParts}
use Rattle.view_reading.specs.Unfiltered.{passes}
use Rattle.view_reading.proofs.differing.Parts.of.Given as goal

abbrev pub invariant-loop-row : goal.invariant-loop-row
invariant-loop-row l = record {
  seam : l.fn.unfiltered.rows.items ≡ l.yielded ++ into_iter_items l.row-iterator;
  parts : AreParts l.known l.parts (map (restrict l.cols) (filter (passes (option_map (λ p. p.now) l.fn.unfiltered.pred)) l.yielded));
}
