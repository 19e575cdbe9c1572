use Rattle.std.proofs.Common.{◌≡◌, map, take}
use Rattle.lens_specs.specs.Common.{renamed_names}
use Rattle.lens_probe.proofs.needed.renamed_each.Given as goal

abbrev pub invariant-loop-set : goal.invariant-loop-set
invariant-loop-set l = l.renamed.items ≡ map (renamed_names l.from l.to) (take l.set-index l.sets)
