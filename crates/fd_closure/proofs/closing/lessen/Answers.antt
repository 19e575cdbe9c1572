use Rattle.std.proofs.Common.{◌≡◌, ◌∙◌, ◌-◌, sym, ap, get_or, set, nat_eq, true, ◌||◌, ◌&&◌}
use Rattle.plain_values.proofs.Common.{eq-eqb, get_or_default}
use Rattle.plain_values.specs.SortedSet as names
use Rattle.lens_specs.specs.Common.{is_among}
use Rattle.fd_closure.proofs.closing.lessen.Goals as goal

pub returns-in_ok-add_all-clause-members : goal.returns-in_ok-add_all-clause-members
returns-in_ok-add_all-clause-members c = λ k e.
    let old = c.args.found.now.order.items in
    let deps = c.args.deps.now in
    let p = c.args.place in
    let right : c.right.result.now ≡ (get_or deps p e).right =
    c.right.ensures.value ∙ ap (λ d. d.right) (c.index-deps-place.is ∙ get_or_default deps p c.index-deps-place.result e c.requires.place) in
    let none : nat_eq (get_or (set c.args.lacks.now p (get_or c.args.lacks.now p 0 - 1)) p 0) 0 ≡ true = eq-eqb _ _ c.if-lacks-place-eq0.true in
    c.in_ok-add_all.ensures.members k
    ∙ ap (λ b. is_among k old || b) (ap (is_among k) c.as_slice.ensures ∙ sym (names.contains-items c.right.result.now k) ∙ ap (λ s. names.contains s k) right)
    ∙ ap (λ b. is_among k old || (b && names.contains (get_or deps p e).right k)) (sym none)
