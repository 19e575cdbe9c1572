use Rattle.std.proofs.Common.{◌≡◌, ◌++◌, take}
use Rattle.lens_laws.specs.Asked.{parts}
use Rattle.lens_probe.proofs.needed.handed_to.Given as goal

abbrev pub invariant-loop-set : goal.invariant-loop-set
invariant-loop-set l = l.handed.items ≡ l.initial.handed.items ++ parts l.side (take l.set-index l.sets)
