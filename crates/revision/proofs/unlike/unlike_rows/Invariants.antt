use Rattle.std.proofs.Common.{◌≡◌, take, filter, not}
use Rattle.plain_values.specs.SortedSet as set
use Rattle.revision.specs.Near.{is_like_first}
use Rattle.revision.proofs.unlike.unlike_rows.Given as goal

abbrev pub invariant-loop-row : goal.invariant-loop-row
invariant-loop-row l = l.rows.items ≡ filter (λ row. not (is_like_first l.edge l.near row)) (take l.row-index (set.items l.plus))
