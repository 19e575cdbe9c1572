use Rattle.std.proofs.Common.{◌≡◌, take}
use Rattle.plain_values.proofs.Common.{get, filter_map}
use Rattle.lens_values.proofs.row.Row.values_at.Given as goal

abbrev pub invariant-loop-name : goal.invariant-loop-name
invariant-loop-name l = l.found.items ≡ filter_map (get l.self) (take l.name-index l.name-items)
