use Rattle.std.proofs.Common.{◌≡◌, ◌∙◌, ◌+◌, ◌-◌, ◌<◌, sym, ap, length, arith, length-set}
use Rattle.plain_values.proofs.Common.{drop_all}
use Rattle.lens_specs.specs.Common.{agree, clashes, first_pair}
use Rattle.fd_tree.specs.ClashPlaces.{entry, later_places}
use Rattle.fd_tree.proofs.Places.{entry-set_before, length-later_places, pair_at, pair_behind, same_from-set, same_past}
use Rattle.fd_tree.proofs.violation.first_violation.Goals as goal

pub loop-place-init : goal.loop-place-init
loop-place-init c =
    let rows = c.args.rows.now in
    let e = c.args.edge.now in
    let len : length c.args.next_in_group.items ≡ length rows = ap length c.requires ∙ length-later_places (agree e.left) 0 rows in
    record {
      len = len;
      next_in_group = λ k l. ap (λ xs. entry xs k) c.requires;
      later = same_past _ _ (length rows) len (length-later_places (clashes e) 0 rows);
      first = ap (first_pair e) (drop_all (length rows) rows (omega arith));
    }

pub loop-place-preserved-in-Some : goal.loop-place-preserved-in-Some
loop-place-preserved-in-Some c =
    let rows = c.args.rows.now in
    let e = c.args.edge.now in
    let p = c.loop-place.place in
    let i = p - 1 in
    let partner = c.partner_of-partner.result in
    let l : i < length rows = omega (arith, c.loop-place.auto.place, c.loop-place-test.true) in
    let n : p ≡ i + 1 = omega (arith, c.loop-place-test.true) in
    record {
      len = length-set c.loop-place.partners.items i partner ∙ c.loop-place.invariant.len;
      next_in_group = λ k m. entry-set_before c.loop-place.partners.items i partner k m ∙ c.loop-place.invariant.next_in_group k (omega (arith, m));
      later = same_from-set c.loop-place.partners.items (later_places (clashes e) 0 rows) i p partner (omega (arith, l, c.loop-place.invariant.len)) n c.loop-place.invariant.later c.partner_of-partner.ensures;
      first = pair_at e rows i c.in-Some.partner l (sym c.partner_of-partner.ensures ∙ c.in-Some.is);
    }

pub loop-place-preserved : goal.loop-place-preserved
loop-place-preserved c =
    let rows = c.args.rows.now in
    let e = c.args.edge.now in
    let p = c.loop-place.place in
    let i = p - 1 in
    let partner = c.partner_of-partner.result in
    let l : i < length rows = omega (arith, c.loop-place.auto.place, c.loop-place-test.true) in
    let n : p ≡ i + 1 = omega (arith, c.loop-place-test.true) in
    record {
      len = length-set c.loop-place.partners.items i partner ∙ c.loop-place.invariant.len;
      next_in_group = λ k m. entry-set_before c.loop-place.partners.items i partner k m ∙ c.loop-place.invariant.next_in_group k (omega (arith, m));
      later = same_from-set c.loop-place.partners.items (later_places (clashes e) 0 rows) i p partner (omega (arith, l, c.loop-place.invariant.len)) n c.loop-place.invariant.later c.partner_of-partner.ensures;
      first = pair_behind e rows i p c.loop-place.first l n (sym c.partner_of-partner.ensures ∙ c.in_default.is) c.loop-place.invariant.first;
    }
