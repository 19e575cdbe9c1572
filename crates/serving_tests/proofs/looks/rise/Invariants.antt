use Rattle.lens_specs.specs.Common.{IfObserved}
use Rattle.server_specs.specs.Common.{kept}
use Rattle.serving_tests.proofs.looks.rise.Given as goal

abbrev pub invariant-loop-line : goal.invariant-loop-line
invariant-loop-line g l = IfObserved (g.K.Keeper.contents l.keeper) (kept l.server)
