use Rattle.std.proofs.Common.{◌∙◌, ap, arith, option_copied}
use Rattle.plain_values.proofs.Common.{filter_map, take_all}
use Rattle.view_reading.specs.Pasting.{value_at}
use Rattle.view_reading.proofs.PairParts.{one_found}
use Rattle.view_reading.proofs.pasting.values_at.Goals as goal

pub loop-place-preserved : goal.loop-place-preserved
loop-place-preserved c =
    one_found (value_at c.args.left.now c.args.right.now) c.args.places.now c.loop-place.place-index _ c.loop-place.found.items c.add_value.new.found.items (option_copied c.value_at.result)
    c.loop-place-test.true c.value_at.ensures c.loop-place.invariant c.in_ok-add_value.ensures

pub returns : goal.returns
returns c = c.loop-place.invariant ∙ ap (filter_map (value_at c.args.left.now c.args.right.now)) (take_all c.loop-place.place-index c.args.places.now (omega arith))
