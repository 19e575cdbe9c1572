use Rattle.std.proofs.Common.{◌≡◌, take}
use Rattle.plain_values.proofs.Common.{filter_map}
use Rattle.view_reading.specs.Pasting.{value_at}
use Rattle.view_reading.proofs.pasting.values_at.Given as goal

abbrev pub invariant-loop-place : goal.invariant-loop-place
invariant-loop-place l = l.found.items ≡ filter_map (value_at l.left l.right) (take l.place-index l.places)
