use Rattle.std.proofs.Common.{◌≡◌, take, map}
use Rattle.lens_specs.specs.Common.{along}
use Rattle.revision.proofs.steps.each_along.Given as goal

abbrev pub invariant-loop-row : goal.invariant-loop-row
invariant-loop-row l = l.moved.items ≡ map (λ m. along l.edge m l.by) (take l.row-index l.rows)
