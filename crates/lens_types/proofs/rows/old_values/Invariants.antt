use Rattle.std.proofs.Common.{◌≡◌, take}
use Rattle.plain_values.proofs.Common.{filter_map}
use Rattle.lens_specs.specs.Common.{renamed, at}
use Rattle.lens_types.proofs.rows.old_values.Given as goal

abbrev pub invariant-loop-name : goal.invariant-loop-name
invariant-loop-name l = l.found.items ≡ filter_map (λ c. at l.row (renamed l.to l.col c)) (take l.name-index l.name-items)
