use Rattle.std.proofs.Common.{◌≡◌, filter, take}
use Rattle.lens_specs.specs.Common.{holds}
use Rattle.lens_probe.proofs.selecting.selected.Given as goal

abbrev pub invariant-loop-row : goal.invariant-loop-row
invariant-loop-row l = l.some.items ≡ filter (holds l.pred) (take l.row-index l.row-items)
