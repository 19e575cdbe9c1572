use Rattle.std.proofs.Common.{◌≡◌, map, take}
use Rattle.lens_specs.specs.Common.{renamed}
use Rattle.lens_types.proofs.renaming.renamed_pairs.Given as goal

abbrev pub invariant-loop-pair : goal.invariant-loop-pair
invariant-loop-pair l = l.list.items ≡ map (λ e. (renamed l.col l.to e.0, e.1)) (take l.pair-index l.pairs)
