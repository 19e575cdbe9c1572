use Rattle.std.proofs.Common.{◌≡◌, take}
use Rattle.plain_values.proofs.Common.{filter_map}
use Rattle.view_reading.specs.Pasting.{place_in}
use Rattle.view_reading.proofs.pasting.places_in.Given as goal

abbrev pub invariant-loop-name : goal.invariant-loop-name
invariant-loop-name l = l.places.items ≡ filter_map (place_in l.left l.right) (take l.name-index l.name-items)
