use Rattle.std.proofs.Common.{◌≡◌}
use Rattle.lens_specs.specs.Common.{IsRelation}
use Rattle.sample_rows.proofs.samples.relation.Given as goal

abbrev pub invariant-loop-row : goal.invariant-loop-row
invariant-loop-row l = (l.made.columns ≡ l.columns) × IsRelation l.made
