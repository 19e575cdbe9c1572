use Rattle.std.proofs.Common.{◌≡◌, ◌++◌, take}
use Rattle.lens_laws.proofs.Common.{left_sides}
use Rattle.lens_probe.proofs.needed.with_left_sides.Given as goal

abbrev pub invariant-loop-edge : goal.invariant-loop-edge
invariant-loop-edge l = l.sets.items ≡ l.initial.sets.items ++ left_sides (take l.edge-index l.edge-items)
