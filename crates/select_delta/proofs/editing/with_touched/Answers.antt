use Rattle.std.proofs.Common.{◌≡◌, ◌∙◌, ap, map, not, subst, sym}
use Rattle.plain_values.specs.SortedSet as set
use Rattle.lens_specs.specs.Common.{holds, those, union}
use Rattle.signed_delta.specs.Disjoint.{AreApart}
use Rattle.select_delta.specs.Selected.{with_touched}
use Rattle.select_delta.proofs.editing.with_touched.Goals.{In_ok-add}
use Rattle.select_delta.proofs.editing.with_touched.Goals as goal

removes : (c : In_ok-add) → c.in_ok-remove.remove ≡ (with_touched c.args.pred.now c.args.touched.items c.args.delta.now).remove
removes c =
    let gone = c.in_ok-gone.ensures ∙ ap (λ ts. set.from_list (map (λ t. t.before) ts)) c.deref.ensures.value in
    c.in_ok-remove.ensures ∙ (λ i. union (c.remove.ensures i) (gone i))

adds : (c : In_ok-add) → c.in_ok-add.add ≡ (with_touched c.args.pred.now c.args.touched.items c.args.delta.now).add
adds c =
    let revised = c.in_ok-revised.ensures ∙ ap (λ ts. set.from_list (map (λ t. t.after) ts)) c.deref-2.ensures.value in
    let new = c.refused-new.ensures ∙ ap (those (λ row. not (holds c.args.pred.now row))) revised in
    c.in_ok-add.ensures ∙ (λ i. union (c.add.ensures i) (new i))

pub new-requires : goal.new-requires
new-requires c =
    let e = (goal.at.new-requires c).In_ok-add in
    let change = with_touched c.args.pred.now c.args.touched.items c.args.delta.now in
    subst (AreApart c.in_ok-remove.remove) (sym (adds e)) (subst (λ M. AreApart M change.add) (sym (removes e)) c.requires)

pub returns : goal.returns
returns c =
    let e = (goal.at.returns c).In_ok-add in
    c.new-2.ensures ∙ (λ i. record { remove = removes e i; add = adds e i })
