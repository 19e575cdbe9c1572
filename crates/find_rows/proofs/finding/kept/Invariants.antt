use Rattle.std.proofs.Common.{◌≡◌, Some, filter}
use Rattle.lens_specs.specs.Common.{at, same_value}
use Rattle.find_rows.proofs.finding.kept.Given as goal

abbrev pub invariant-loop-row : goal.invariant-loop-row
invariant-loop-row l = l.some.items ≡ filter (λ row. same_value (Some l.value) (at row l.col)) l.yielded
