use Rattle.std.proofs.Common.{◌≡◌, take, filter}
use Rattle.plain_values.proofs.Common.{restrict}
use Rattle.lens_specs.specs.Common.{has}
use Rattle.whole_put.proofs.joining.with_part.Given as goal

abbrev pub invariant-loop-row : goal.invariant-loop-row
invariant-loop-row l = l.some.items ≡ filter (λ w. has l.parts (restrict l.cols w)) (take l.row-index l.rows)
