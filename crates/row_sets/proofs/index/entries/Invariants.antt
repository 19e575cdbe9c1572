use Rattle.std.proofs.Common.{◌≡◌, take, map}
use Rattle.row_sets.specs.Joins.{with_key}
use Rattle.row_sets.proofs.index.entries.Given as goal

abbrev pub invariant-loop-row : goal.invariant-loop-row
invariant-loop-row l = l.list.items ≡ map (with_key l.cols) (take l.row-index l.rows)
