use Rattle.std.proofs.Common.{◌≡◌, ◌∙◌, ◌+◌, ◌-◌, ◌<◌, sym, length, arith, length-set}
use Rattle.plain_values.proofs.Common.{restrict, row_cmp}
use Rattle.lens_specs.specs.Common.{agree}
use Rattle.fd_tree.specs.ClashPlaces.{later_places}
use Rattle.fd_tree.proofs.Places.{holds_more, holds_none, part_next, length-later_places, same_entries, same_from-set, same_past}
use Rattle.fd_tree.proofs.next_in_group.next_by_part.Goals as goal

pub loop-place-init : goal.loop-place-init
loop-place-init c =
    let rows = c.args.rows.now in
    let len : length c.in_ok-next_in_group.next_in_group.items ≡ length rows = omega (arith, c.in_ok-next_in_group.next_in_group.ok.0, c.in_ok-next_in_group.ensures.len) in
    record {
      len = len;
      latest = holds_none row_cmp (restrict c.args.cols.now) c.new-latest.result rows (length rows) c.new-latest.ensures.empty (omega arith);
      later = same_past _ _ (length rows) len (length-later_places (agree c.args.cols.now) 0 rows);
    }

pub loop-place-preserved : goal.loop-place-preserved
loop-place-preserved c =
    let rows = c.args.rows.now in
    let C = c.args.cols.now in
    let p = c.loop-place.place in
    let i = p - 1 in
    let l : i < length rows = omega (arith, c.loop-place.auto.place, c.loop-place-test.true) in
    let e : p ≡ i + 1 = omega (arith, c.loop-place-test.true) in
    let row = c.index-rows-place.result in
    let here = part_next C c.loop-place.latest rows i p c.in_ok-part.part row c.in_ok-next_in_group-2.field-0 l e c.index-rows-place.is c.in_ok-part.ensures c.loop-place.invariant.latest c.in_ok-next_in_group-2.ensures.old in
    record {
      len = length-set c.loop-place.next_in_group.items i c.in_ok-next_in_group-2.field-0 ∙ c.loop-place.invariant.len;
      latest = holds_more row_cmp (restrict C) c.loop-place.latest c.insert.new.self rows i p c.in_ok-part.part row l e c.index-rows-place.is c.in_ok-part.ensures c.loop-place.invariant.latest c.in_ok-next_in_group-2.ensures.updates.0;
      later = same_from-set c.loop-place.next_in_group.items (later_places (agree C) 0 rows) i p c.in_ok-next_in_group-2.field-0 (omega (arith, l, c.loop-place.invariant.len)) e c.loop-place.invariant.later here;
    }

pub returns : goal.returns
returns c =
    let rows = c.args.rows.now in
    same_entries c.loop-place.next_in_group.items (later_places (agree c.args.cols.now) 0 rows)
    (c.loop-place.invariant.len ∙ sym (length-later_places (agree c.args.cols.now) 0 rows))
    (λ k m. c.loop-place.invariant.later k (omega (arith, c.loop-place-test.false)))
