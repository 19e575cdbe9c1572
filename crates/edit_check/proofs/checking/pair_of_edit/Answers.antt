use Rattle.std.proofs.Common.{◌≡◌, ◌∙◌, ◌||◌, ap, subst, sym, true, IfOk}
use Rattle.plain_values.proofs.Common.{list_all}
use Rattle.plain_values.specs.SortedSet as set
use Rattle.lens_specs.specs.Common.{has, agree, first_pair}
use Rattle.edit_check.proofs.CheckedEdits.{found_by_each, found_by_only, near_is, no_pair_near, no_pair_replaced}
use Rattle.edit_check.proofs.checking.pair_of_edit.Goals as goal

pub returns-then-branch-clause-pair : goal.returns-then-branch-clause-pair
returns-then-branch-clause-pair g c =
    no_pair_replaced c.args.edge.now (g.K.Look.relation c.args.view.now).rows c.args.delta.now c.requires.meets c.requires.removed (c.in_ok-all_replaced.ensures c.if-branch.true)

pub returns-in-Some-clause-pair : goal.returns-in-Some-clause-pair
returns-in-Some-clause-pair g c =
    let V = (g.K.Look.relation c.args.view.now).rows in
    let e = c.args.edge.now in
    let d = c.args.delta.now in
    let r = c.in-Some.row.now in
    let M = c.in_ok-found.found in
    let only = ap set.items (sym c.add-2.ensures) ∙ c.in-Some.ensures in
    let found = found_by_each c.edge.inside.left e.left V M c.add.result.now d.add (ap (λ x. x.left) c.edge.view_is) c.add.ensures c.in_ok-found.ensures.found ∙ found_by_only e V d r only in
    let alike : list_all (λ q. agree e.right r q || has d.remove q) (set.items M) ≡ true =
    ap (λ R. list_all (λ q. agree e.right r q || has R q) (set.items M)) (sym c.remove.ensures) ∙ sym c.kept_agree.ensures ∙ c.if-kept_agree.true in
    no_pair_near e V d r only c.requires.meets M found alike

pub returns-clause-pair : goal.returns-clause-pair
returns-clause-pair g c =
    let V = (g.K.Look.relation c.args.view.now).rows in
    let e = c.args.edge.now in
    let d = c.args.delta.now in
    let M = c.in_ok-found.found in
    let found = found_by_each c.edge.inside.left e.left V M c.add.result.now d.add (ap (λ x. x.left) c.edge.view_is) c.add.ensures c.in_ok-found.ensures.found in
    subst (λ N. IfOk c.pair_near.result (λ pair. pair ≡ first_pair e (set.items N))) (near_is e V M d found) c.pair_near.ensures
