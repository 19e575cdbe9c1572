use Rattle.std.proofs.Common.{◌≡◌, ◌∙◌, ◌+◌, ◌-◌, ◌<◌, sym, length, arith, length-set, subst}
use Rattle.plain_values.proofs.Common.{nat_cmp}
use Rattle.lens_specs.specs.Common.{agree}
use Rattle.fd_tree.specs.RowHash.{hash_row}
use Rattle.fd_tree.specs.ClashPlaces.{IsAlike, later_places}
use Rattle.fd_tree.proofs.Places.{holds_more, held_below, holds_none, hash_next, length-later_places, same_entries, same_from-set, same_past}
use Rattle.fd_tree.proofs.next_in_group.next_by_hash.Goals as goal

pub loop-place-init : goal.loop-place-init
loop-place-init c =
    let rows = c.args.rows.now in
    let len : length c.in_ok-next_in_group.next_in_group.items ≡ length rows = omega (arith, c.in_ok-next_in_group.next_in_group.ok.0, c.in_ok-next_in_group.ensures.len) in
    record {
      len = len;
      latest = holds_none nat_cmp (hash_row c.args.cols.now) c.new-latest.result rows (length rows) c.new-latest.ensures.empty (omega arith);
      later = same_past _ _ (length rows) len (length-later_places (agree c.args.cols.now) 0 rows);
    }

pub is_alike-requires-clause-next : goal.is_alike-requires-clause-next
is_alike-requires-clause-next c =
    let C = c.args.cols.now in
    let rows = c.args.rows.now in
    let p = c.loop-place.place in
    let i = p - 1 in
    let e : p ≡ i + 1 = omega (arith, c.loop-place-test.true) in
    let row = c.index-rows-place.result in
    held_below nat_cmp (hash_row C) c.loop-place.latest rows i p c.hash_row.result row c.in_ok-next.next e c.hash_row.ensures c.loop-place.invariant.latest c.in_ok-next.ensures.old

pub loop-place-preserved : goal.loop-place-preserved
loop-place-preserved c =
    let rows = c.args.rows.now in
    let C = c.args.cols.now in
    let p = c.loop-place.place in
    let i = p - 1 in
    let l : i < length rows = omega (arith, c.loop-place.auto.place, c.loop-place-test.true) in
    let e : p ≡ i + 1 = omega (arith, c.loop-place-test.true) in
    let row = c.index-rows-place.result in
    let next = c.in_ok-next.next in
    let alike = subst (IsAlike C rows i next) c.if-not-is_alike.false c.is_alike.ensures in
    let here = hash_next C c.loop-place.latest rows i p c.hash_row.result row next l e c.index-rows-place.is c.hash_row.ensures c.loop-place.invariant.latest c.in_ok-next.ensures.old alike in
    record {
      len = length-set c.loop-place.next_in_group.items i next ∙ c.loop-place.invariant.len;
      latest = holds_more nat_cmp (hash_row C) c.loop-place.latest c.insert.new.self rows i p c.hash_row.result row l e c.index-rows-place.is c.hash_row.ensures c.loop-place.invariant.latest c.in_ok-next.ensures.updates.0;
      later = same_from-set c.loop-place.next_in_group.items (later_places (agree C) 0 rows) i p next (omega (arith, l, c.loop-place.invariant.len)) e c.loop-place.invariant.later here;
    }

pub returns : goal.returns
returns c =
    let rows = c.args.rows.now in
    same_entries c.loop-place.next_in_group.items (later_places (agree c.args.cols.now) 0 rows)
    (c.loop-place.invariant.len ∙ sym (length-later_places (agree c.args.cols.now) 0 rows))
    (λ k m. c.loop-place.invariant.later k (omega (arith, c.loop-place-test.false)))
