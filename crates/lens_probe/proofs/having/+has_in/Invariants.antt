use Rattle.lens_specs.specs.Common.{nodes_of}
use Rattle.lens_probe.proofs.having.+has_in.Given as goal

abbrev pub decreases-has_in : goal.decreases-has_in
decreases-has_in g l = nodes_of l.lens.now
