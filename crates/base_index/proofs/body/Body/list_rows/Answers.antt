use Rattle.std.proofs.Common.{◌≡◌, ap, sym, ◌∙◌, subst, arith}
use Rattle.plain_values.proofs.Common.{IsStrictlySortedBy, row_cmp}
use Rattle.plain_values.specs.SortedSet as set
use Rattle.lens_specs.specs.Common.{has}
use Rattle.lens_specs.specs.Relation.{Fits}
use Rattle.signed_delta.proofs.Differences.{items_rise}
use Rattle.key_index.proofs.Common.{set_of, on_ok, contained, listed_whole}
use Rattle.base_index.specs.Parts.{parts_of, rows_seen}
use Rattle.base_index.proofs.Bodies.{changed_next, kept_twice}
use Rattle.base_index.proofs.body.Body.list_rows.Goals as goal

pub hide_each-requires-clause-seen : goal.hide_each-requires-clause-seen
hide_each-requires-clause-seen c = λ row there.
    let whole : set_of c.rows-remove.result.now ≡ c.args.delta.now.remove =
    ap set_of (c.rows-remove.ensures ∙ ap set.items c.remove.ensures) ∙ listed_whole c.args.delta.now.remove in
    c.requires.applies.removes row (ap (λ s. has s row) (sym whole) ∙ there)

pub add_each-requires-clause-apart : goal.add_each-requires-clause-apart
add_each-requires-clause-apart c = subst (IsStrictlySortedBy row_cmp) (sym (c.rows-add.ensures ∙ ap set.items c.add.ensures)) (items_rise c.args.delta.now.add)

pub add_each-requires-clause-unseen : goal.add_each-requires-clause-unseen
add_each-requires-clause-unseen c = λ row there.
    let whole : set_of c.rows-add.result.now ≡ c.args.delta.now.add =
    ap set_of (c.rows-add.ensures ∙ ap set.items c.add.ensures) ∙ listed_whole c.args.delta.now.add in
    ap (λ s. has s row) c.in_ok-hide_each.ensures.kept.seen ∙ c.requires.applies.adds row (ap (λ s. has s row) (sym whole) ∙ there)

pub add_each-requires-clause-absent : goal.add_each-requires-clause-absent
add_each-requires-clause-absent c = λ row there.
    let whole : set_of c.rows-add.result.now ≡ c.args.delta.now.add =
    ap set_of (c.rows-add.ensures ∙ ap set.items c.add.ensures) ∙ listed_whole c.args.delta.now.add in
    let now = ap (λ s. has s row) (c.in_ok-hide_each.ensures.next ∙ ap (λ s. set.difference s (set_of c.rows-remove.result.now)) c.requires.quiet) in
    let old = c.requires.applies.adds row (ap (λ s. has s row) (sym whole) ∙ there) in
    grind (arith, contained, now, old)

pub add_each-requires-clause-fits : goal.add_each-requires-clause-fits
add_each-requires-clause-fits c = λ row there.
    let whole : set_of c.rows-add.result.now ≡ c.args.delta.now.add =
    ap set_of (c.rows-add.ensures ∙ ap set.items c.add.ensures) ∙ listed_whole c.args.delta.now.add in
    subst (λ d. Fits d row) (sym c.in_ok-hide_each.ensures.kept.columns) (c.requires.fits row (ap (λ s. has s row) (sym whole) ∙ there))

pub returns-clause-next : goal.returns-clause-next
returns-clause-next c =
    let gone : set_of c.rows-remove.result.now ≡ c.args.delta.now.remove =
    ap set_of (c.rows-remove.ensures ∙ ap set.items c.remove.ensures) ∙ listed_whole c.args.delta.now.remove in
    let come : set_of c.rows-add.result.now ≡ c.args.delta.now.add =
    ap set_of (c.rows-add.ensures ∙ ap set.items c.add.ensures) ∙ listed_whole c.args.delta.now.add in
    on_ok c.add_each.result (λ is. is ∙ (λ i. set.union ((c.in_ok-hide_each.ensures.next ∙ (λ j. set.difference (c.requires.quiet j) (gone j))) i) (come i))
    ∙ changed_next (rows_seen (parts_of c.args.self.now)) c.args.delta.now) c.add_each.ensures.next

pub returns-clause-kept : goal.returns-clause-kept
returns-clause-kept c = kept_twice _ _ _ c.in_ok-hide_each.ensures.kept c.add_each.ensures.kept

pub add_first-requires-clause-fits : goal.add_first-requires-clause-fits
add_first-requires-clause-fits c = λ row there.
    subst (λ d. Fits d row) (sym c.in_ok-hide_each.ensures.kept.columns) (c.requires.fits row (ap (λ s. has s row) (sym c.add-then-count-eq0.ensures) ∙ there))

pub returns-then-count-eq0-clause-next : goal.returns-then-count-eq0-clause-next
returns-then-count-eq0-clause-next c =
    let gone : set_of c.rows-remove.result.now ≡ c.args.delta.now.remove =
    ap set_of (c.rows-remove.ensures ∙ ap set.items c.remove.ensures) ∙ listed_whole c.args.delta.now.remove in
    on_ok c.add_first.result (λ is. is ∙ (λ i. set.union ((c.in_ok-hide_each.ensures.next ∙ (λ j. set.difference (c.requires.quiet j) (gone j))) i) (c.add-then-count-eq0.ensures i))
    ∙ changed_next (rows_seen (parts_of c.args.self.now)) c.args.delta.now) c.add_first.ensures.next

pub returns-then-count-eq0-clause-kept : goal.returns-then-count-eq0-clause-kept
returns-then-count-eq0-clause-kept c = kept_twice _ _ _ c.in_ok-hide_each.ensures.kept c.add_first.ensures.kept
