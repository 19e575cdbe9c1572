use Rattle.std.proofs.Common.{◌≡◌, not, take, filter}
use Rattle.plain_values.proofs.Common.{restrict}
use Rattle.plain_values.specs.SortedSet as set
use Rattle.lens_specs.specs.Common.{has}
use Rattle.join_delta.proofs.parts.with_other_parts.Given as goal

abbrev pub invariant-loop-row : goal.invariant-loop-row
invariant-loop-row l = l.some.items ≡ filter (λ row. not (has l.parts (restrict l.columns row))) (take l.row-index (set.items l.rows))
