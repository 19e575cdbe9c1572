use Rattle.std.proofs.Common.{◌∙◌, ap, arith, sym, [], ◌++◌, append-nil}
use Rattle.plain_values.proofs.Common.{cons_option, filter_map, take_all}
use Rattle.lens_values.proofs.Cells.{one_more}
use Rattle.view_reading.specs.Pasting.{place_in}
use Rattle.view_reading.proofs.pasting.places_in.Goals as goal
use Rattle.view_reading.proofs.pasting.places_in.Goals.{in-Some+in_ok-push, in_default}

pub loop-name-preserved : goal.loop-name-preserved
loop-name-preserved c =
    one_more (place_in c.args.left.now c.args.right.now) c.as_slice-name-items.result.now c.loop-name.name-index c.name-item.result c.loop-name.places.items c.match-place_in.places.items c.place_in.result
    c.loop-name-test.true c.name-item.is (sym c.place_in.ensures) c.loop-name.invariant
    (elim c.match-place_in.branch [
      | in-Some+in_ok-push w ↦ ap (λ v. v.items) w.places-is ∙ w.in_ok-push.ensures.items ∙ ap (λ o. c.loop-name.places.items ++ cons_option o []) (sym w.in-Some.is)
      | in_default w ↦ ap (λ v. v.items) w.places-is ∙ sym (append-nil c.loop-name.places.items) ∙ ap (λ o. c.loop-name.places.items ++ cons_option o []) (sym w.in_default.is)
    ])

pub returns : goal.returns
returns c =
    let names = c.as_slice-name-items.result.now in
    c.loop-name.invariant ∙ ap (filter_map (place_in c.args.left.now c.args.right.now)) (take_all c.loop-name.name-index names (omega arith) ∙ c.as_slice-name-items.ensures)
