use Rattle.lens_specs.specs.Common.{nodes_of}
use Rattle.lens_chain.proofs.putting.+carry_down.Given as goal

abbrev pub decreases-carry_down : goal.decreases-carry_down
decreases-carry_down g l = nodes_of l.view.now.lens
