use Rattle.std.proofs.Common.{◌≡◌, ◌∙◌, ◌≤◌, ℕ, ap, length, subst, sym}
use Rattle.plain_values.proofs.Common.{IfOk-weaker, Contains}
use Rattle.lens_specs.specs.Common.{diff, new_view, AllEdges, MeetsTree, get, sort_of, view_names, Within, select_get, select_put, holds}
use Rattle.lens_laws.specs.KeyedDeltas as keyed
use Rattle.lens_laws.proofs.Common.{rows_down, rows_of, size}
use Rattle.lens_probe.specs.Viewed.{FindsAtMost, IsWithin, asked_by}
use Rattle.select_delta.specs.Selected.{AreSelected}
use Rattle.lens_chain.specs.Edits.{IsEdit, over}
use Rattle.lens_chain.proofs.EditLooks.{edges_few, within_size}
use Rattle.lens_chain.proofs.Premises.{edges_asked, lefts_within, meets_tree, select_applies, select_carried, select_view, tree_is}
use Rattle.lens_chain.proofs.nodes.under_select.Goals as goal

pub select_delta-requires-clause-asked : goal.select_delta-requires-clause-asked
select_delta-requires-clause-asked g c =
    let v = c.args.source.now in
    let tree = tree_is v.lens c.lens.result.now c.sort.result.now c.tree-tree.result.now c.requires.typed.0 c.lens.ensures.lens c.sort.ensures.given c.tree-tree.ensures.value in
    subst (AllEdges (λ e. Contains (asked_by v) e.left)) (sym tree) (edges_asked v.lens v.sets)

pub select_delta-requires-clause-columns : goal.select_delta-requires-clause-columns
select_delta-requires-clause-columns g c =
    let v = c.args.source.now in
    let tree = tree_is v.lens c.lens.result.now c.sort.result.now c.tree-tree.result.now c.requires.typed.0 c.lens.ensures.lens c.sort.ensures.given c.tree-tree.ensures.value in
    subst (AllEdges (λ e. Within e.left (view_names v.lens))) (sym tree) (lefts_within v.lens c.requires.typed.0)

pub select_delta-requires-clause-meets : goal.select_delta-requires-clause-meets
select_delta-requires-clause-meets g c =
    let v = c.args.source.now in
    let tree = tree_is v.lens c.lens.result.now c.sort.result.now c.tree-tree.result.now c.requires.typed.0 c.lens.ensures.lens c.sort.ensures.given c.tree-tree.ensures.value in
    subst (MeetsTree (get v.lens (over v))) (sym tree) (meets_tree v.lens (over v) c.requires.typed.0 c.lens.ensures.viewed.1.tables)

pub select_delta-requires-clause-applies : goal.select_delta-requires-clause-applies
select_delta-requires-clause-applies g c =
    let v = c.args.source.now in
    select_applies c.args.pred.now v.lens (over v) c.args.delta c.requires.typed c.lens.ensures.viewed.1.tables c.requires.edit

pub select_delta-requires-clause-view : goal.select_delta-requires-clause-view
select_delta-requires-clause-view g c =
    let v = c.args.source.now in
    let P = c.args.pred.now in
    let N = new_view (select_get (holds P) (get v.lens (over v))) c.args.delta in
    let tree = tree_is v.lens c.lens.result.now c.sort.result.now c.tree-tree.result.now c.requires.typed.0 c.lens.ensures.lens c.sort.ensures.given c.tree-tree.ensures.value in
    subst (λ T. AreSelected (sort_of v.lens).columns T P N) (sym tree) (select_view P v.lens (over v) c.args.delta c.requires.typed c.lens.ensures.viewed.1.tables c.requires.edit)

pub returns-clause-change : goal.returns-clause-change
returns-clause-change g c =
    let v = c.args.source.now in
    let P = c.args.pred.now in
    let M = get v.lens (over v) in
    let N = new_view (select_get (holds P) M) c.args.delta in
    let T = c.tree-tree.result.now in
    let tree = tree_is v.lens c.lens.result.now c.sort.result.now T c.requires.typed.0 c.lens.ensures.lens c.sort.ensures.given c.tree-tree.ensures.value in
    IfOk-weaker c.select_delta.result (λ change. change ≡ diff M (select_put T (holds P) N M)) (λ change. change ≡ keyed.select_delta (sort_of v.lens).tree (holds P) M c.args.delta)
    (λ change is. (select_carried P v.lens (over v) c.args.delta c.requires.typed c.lens.ensures.viewed.1.tables c.requires.edit change (is ∙ ap (λ F. diff M (select_put F (holds P) N M)) tree)).0)
    c.select_delta.ensures.delta

pub returns-clause-edit : goal.returns-clause-edit
returns-clause-edit g c =
    let v = c.args.source.now in
    let P = c.args.pred.now in
    let M = get v.lens (over v) in
    let N = new_view (select_get (holds P) M) c.args.delta in
    let T = c.tree-tree.result.now in
    let tree = tree_is v.lens c.lens.result.now c.sort.result.now T c.requires.typed.0 c.lens.ensures.lens c.sort.ensures.given c.tree-tree.ensures.value in
    IfOk-weaker c.select_delta.result (λ change. change ≡ diff M (select_put T (holds P) N M)) (λ change. IsEdit v.lens (over v) change)
    (λ change is. (select_carried P v.lens (over v) c.args.delta c.requires.typed c.lens.ensures.viewed.1.tables c.requires.edit change (is ∙ ap (λ F. diff M (select_put F (holds P) N M)) tree)).1)
    c.select_delta.ensures.delta

pub returns-clause-looks : goal.returns-clause-looks
returns-clause-looks g c = λ w few.
    let v = c.args.source.now in
    let edges = edges_few v.lens c.lens.result.now c.sort.result.now c.tree-tree.result.now c.requires.typed.0 c.lens.ensures.viewed.1.keys c.lens.ensures.lens c.sort.ensures.given c.tree-tree.ensures.value c.tree-tree.ensures.small in
    c.select_delta.ensures.looks (size v.lens w) (within_size v w few) edges

pub returns-clause-few : goal.returns-clause-few
returns-clause-few g c =
    let v = c.args.source.now in
    let edges = edges_few v.lens c.lens.result.now c.sort.result.now c.tree-tree.result.now c.requires.typed.0 c.lens.ensures.viewed.1.keys c.lens.ensures.lens c.sort.ensures.given c.tree-tree.ensures.value c.tree-tree.ensures.small in
    IfOk-weaker c.select_delta.result
    (λ change. (n : ℕ) → IsWithin v n → length c.tree-tree.result.now ≤ 64 → rows_of change ≤ rows_down (rows_of c.args.delta) n)
    (λ change. (w : ℕ) → FindsAtMost v w → rows_of change ≤ rows_down (rows_of c.args.delta) (size v.lens w))
    (λ change all w few. all (size v.lens w) (within_size v w few) edges)
    c.select_delta.ensures.few
