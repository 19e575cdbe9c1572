use Rattle.std.proofs.Common.{◌≡◌}
use Rattle.value_tests.proofs.samples.relation.Given as goal

abbrev pub invariant-loop-row : goal.invariant-loop-row
invariant-loop-row g l = l.made.columns ≡ l.columns
