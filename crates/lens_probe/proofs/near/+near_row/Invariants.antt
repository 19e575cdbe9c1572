use Rattle.lens_specs.specs.Common.{nodes_of}
use Rattle.lens_probe.proofs.near.+near_row.Given as goal

abbrev pub decreases-near_row : goal.decreases-near_row
decreases-near_row g l = nodes_of l.lens.now
