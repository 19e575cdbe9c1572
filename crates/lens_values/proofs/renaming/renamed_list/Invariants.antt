use Rattle.std.proofs.Common.{◌≡◌, map, take}
use Rattle.plain_values.proofs.Common.{renamed}
use Rattle.lens_values.proofs.renaming.renamed_list.Given as goal

abbrev pub invariant-loop-name : goal.invariant-loop-name
invariant-loop-name l = l.list.items ≡ map (renamed l.from l.to) (take l.name-index l.names)
