use Rattle.std.proofs.Common.{◌≡◌, take}
use Rattle.plain_values.proofs.Common.{filter_map}
use Rattle.view_reading.specs.Pasting.{own_place}
use Rattle.view_reading.proofs.pasting.own_places.Given as goal

abbrev pub invariant-loop-name : goal.invariant-loop-name
invariant-loop-name l = l.places.items ≡ filter_map (own_place l.all) (take l.name-index l.name-items)
