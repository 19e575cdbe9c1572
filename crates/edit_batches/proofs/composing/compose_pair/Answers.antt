use Rattle.std.proofs.Common.{ap, sym, subst, ◌∙◌}
use Rattle.lens_specs.specs.Common.{has}
use Rattle.plain_values.specs.SortedSet as set
use Rattle.signed_delta.specs.Disjoint.{AreApart}
use Rattle.edit_batches.proofs.Unions.{both_kept, kept_apart}
use Rattle.edit_batches.proofs.composing.compose_pair.Goals as goal

pub new-requires : goal.new-requires
new-requires c = λ row there.
    let d = c.args.before.now in
    let e = c.args.later.now in
    let before = c.sides.ensures in
    let later = c.sides-2.ensures in
    let gone = c.in_ok-gone.ensures ∙ (λ i. set.union (before.remove i) (later.remove i)) in
    let come = c.in_ok-come.ensures ∙ (λ i. set.union (before.add i) (later.add i)) in
    let stays : AreApart d.remove e.add = subst (λ M. AreApart M e.add) before.remove (subst (AreApart c.sides.result.0.now) later.add (c.meet.ensures c.if-meet.false)) in
    let stays_out : AreApart d.add e.remove = subst (λ M. AreApart M e.remove) before.add (subst (AreApart c.sides.result.1.now) later.remove (c.meet-else-meet.ensures c.if-meet-2.false)) in
    ap (λ s. has s row) come ∙ kept_apart d e before.apart later.apart stays stays_out row (ap (λ s. has s row) (sym gone) ∙ there)

pub returns : goal.returns
returns c =
    let d = c.args.before.now in
    let e = c.args.later.now in
    let before = c.sides.ensures in
    let later = c.sides-2.ensures in
    let gone = c.in_ok-gone.ensures ∙ (λ i. set.union (before.remove i) (later.remove i)) in
    let come = c.in_ok-come.ensures ∙ (λ i. set.union (before.add i) (later.add i)) in
    let stays : AreApart d.remove e.add = subst (λ M. AreApart M e.add) before.remove (subst (AreApart c.sides.result.0.now) later.add (c.meet.ensures c.if-meet.false)) in
    let stays_out : AreApart d.add e.remove = subst (λ M. AreApart M e.remove) before.add (subst (AreApart c.sides.result.1.now) later.remove (c.meet-else-meet.ensures c.if-meet-2.false)) in
    c.new.ensures ∙ (λ i. record { remove = gone i; add = come i }) ∙ sym (both_kept d e stays stays_out)
