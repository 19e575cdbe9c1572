use Rattle.lens_specs.specs.Common.{nodes_of}
use Rattle.lens_probe.proofs.near.+near_part.Given as goal

abbrev pub decreases-near_part : goal.decreases-near_part
decreases-near_part g l = nodes_of l.lens.now
