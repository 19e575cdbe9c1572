use Rattle.std.proofs.Common.{◌≡◌, ◌∙◌, ap, subst, sym, IfOk}
use Rattle.plain_values.proofs.Common.{IfOk-weaker}
use Rattle.lens_specs.specs.Common.{sort_of, names, join_left_after, join_right_after, Relation, IsOfSort}
use Rattle.whole_put.proofs.JoinedLenses.{columns_of_both, kept_tree, left_after, left_is_of_sort, left_meets, left_source, put_can, right_after, right_is_of_sort, right_meets, right_source, view_left, view_right}
use Rattle.whole_put.proofs.Lenses.{over}
use Rattle.whole_put.proofs.putting.under_join.Goals as goal
use Rattle.whole_put.proofs.putting.under_join.Goals.{After-put_join, After-tree-right_tree}

left_tree : (c : After-tree-right_tree) → c.tree-left_tree.result.now ≡ (sort_of c.args.left.now).tree
left_tree c = kept_tree c.args.left.now c.sort.result.now c.tree-left_tree.result.now c.requires.typed.0 c.sort.ensures.given c.tree-left_tree.ensures.value

right_tree : (c : After-tree-right_tree) → c.tree-right_tree.result.now ≡ (sort_of c.args.right.now).tree
right_tree c = kept_tree c.args.right.now c.sort-2.result.now c.tree-right_tree.result.now c.requires.typed.1 c.sort-2.ensures.given c.tree-right_tree.ensures.value

pub put_join-requires-clause-can : goal.put_join-requires-clause-can
put_join-requires-clause-can c =
    let d = (goal.at.put_join-requires-clause-can c).After-tree-right_tree in
    put_can c.args.kind c.args.left.now c.args.right.now c.requires.typed c.args.left_source.now c.args.right_source.now _ _ c.requires.left c.requires.right (left_tree d) (right_tree d)

pub put_join-requires-clause-left_meets : goal.put_join-requires-clause-left_meets
put_join-requires-clause-left_meets c =
    let d = (goal.at.put_join-requires-clause-left_meets c).After-tree-right_tree in
    left_meets c.args.kind c.args.left.now c.args.right.now c.requires.typed c.args.left_source.now c.args.right_source.now _ _ c.requires.left c.requires.right (left_tree d) (right_tree d)

pub put_join-requires-clause-right_meets : goal.put_join-requires-clause-right_meets
put_join-requires-clause-right_meets c =
    let d = (goal.at.put_join-requires-clause-right_meets c).After-tree-right_tree in
    right_meets c.args.kind c.args.left.now c.args.right.now c.requires.typed c.args.left_source.now c.args.right_source.now _ _ c.requires.left c.requires.right (left_tree d) (right_tree d)

pub put_join-requires-clause-columns : goal.put_join-requires-clause-columns
put_join-requires-clause-columns c =
    let d = (goal.at.put_join-requires-clause-columns c).After-tree-right_tree in
    c.requires.view.0 ∙ columns_of_both c.args.kind c.args.left.now c.args.right.now c.requires.typed c.args.left_source.now c.args.right_source.now _ _ c.requires.left c.requires.right (left_tree d) (right_tree d)

pub put_join-requires-clause-view_left : goal.put_join-requires-clause-view_left
put_join-requires-clause-view_left c =
    let d = (goal.at.put_join-requires-clause-view_left c).After-tree-right_tree in
    view_left c.args.kind c.args.left.now c.args.right.now c.requires.typed c.args.left_source.now c.args.right_source.now _ _ c.requires.left c.requires.right (left_tree d) (right_tree d) c.args.view.rows c.requires.view.1

pub put_join-requires-clause-view_right : goal.put_join-requires-clause-view_right
put_join-requires-clause-view_right c =
    let d = (goal.at.put_join-requires-clause-view_right c).After-tree-right_tree in
    view_right c.args.kind c.args.left.now c.args.right.now c.requires.typed c.args.left_source.now c.args.right_source.now _ _ c.requires.left c.requires.right (left_tree d) (right_tree d) c.args.view.rows c.requires.view.1

-- ---- the sources are those of the definition

-- the left source after the put, and the right one
abbrev new_left : After-put_join → Relation
new_left c = over c.args.left.now (left_after c.args.kind c.args.left.now c.args.right.now c.args.view.rows c.args.left_source.now.rows c.args.right_source.now.rows)

abbrev new_right : After-put_join → Relation
new_right c = over c.args.right.now (right_after c.args.kind c.args.left.now c.args.right.now c.args.view.rows c.args.left_source.now.rows c.args.right_source.now.rows)

left_made : (c : After-put_join) → IfOk c.put_join.result (λ after. after.0 ≡ new_left c)
left_made c =
    let d = (goal.at.After-put_join c).After-tree-right_tree in
    let A = c.args.left.now in
    let B = c.args.right.now in
    let O = c.args.view.rows in
    let M = c.args.left_source.now in
    let N = c.args.right_source.now in
    let F = c.tree-left_tree.result.now in
    let G = c.tree-right_tree.result.now in
    IfOk-weaker c.put_join.result (λ after. after.0 ≡ record M { rows = join_left_after c.args.kind (names M.columns) (names N.columns) F G O M.rows N.rows }) (λ after. after.0 ≡ new_left c)
    (λ after is. left_source c.args.kind A B c.requires.typed M N F G c.requires.left c.requires.right (left_tree d) (right_tree d) O after.0 is)
    c.put_join.ensures.left

right_made : (c : After-put_join) → IfOk c.put_join.result (λ after. after.1 ≡ new_right c)
right_made c =
    let d = (goal.at.After-put_join c).After-tree-right_tree in
    let A = c.args.left.now in
    let B = c.args.right.now in
    let O = c.args.view.rows in
    let M = c.args.left_source.now in
    let N = c.args.right_source.now in
    let F = c.tree-left_tree.result.now in
    let G = c.tree-right_tree.result.now in
    IfOk-weaker c.put_join.result (λ after. after.1 ≡ record N { rows = join_right_after c.args.kind (names M.columns) (names N.columns) F G O M.rows N.rows }) (λ after. after.1 ≡ new_right c)
    (λ after is. right_source c.args.kind A B c.requires.typed M N F G c.requires.left c.requires.right (left_tree d) (right_tree d) O after.1 is)
    c.put_join.ensures.right

pub returns-clause-left_rows : goal.returns-clause-left_rows
returns-clause-left_rows c =
    let d = (goal.at.returns-clause-left_rows c).After-put_join in
    let U = new_left d in
    IfOk-weaker c.put_join.result (λ after. after.0 ≡ U) (λ after. after.0.rows ≡ U.rows) (λ after is. ap (λ (M : Relation). M.rows) is) (left_made d)

pub returns-clause-right_rows : goal.returns-clause-right_rows
returns-clause-right_rows c =
    let d = (goal.at.returns-clause-right_rows c).After-put_join in
    let U = new_right d in
    IfOk-weaker c.put_join.result (λ after. after.1 ≡ U) (λ after. after.1.rows ≡ U.rows) (λ after is. ap (λ (M : Relation). M.rows) is) (right_made d)

pub returns-clause-left_sort : goal.returns-clause-left_sort
returns-clause-left_sort c =
    let d = (goal.at.returns-clause-left_sort c).After-put_join in
    let A = c.args.left.now in
    let U = new_left d in
    let of_sort = left_is_of_sort c.args.kind A c.args.right.now c.requires.typed c.args.view.rows c.args.left_source.now.rows c.args.right_source.now.rows c.requires.left.1 c.requires.right.1 c.requires.view.1 in
    IfOk-weaker c.put_join.result (λ after. after.0 ≡ U) (λ after. IsOfSort after.0 (sort_of A)) (λ after is. subst (λ M. IsOfSort M (sort_of A)) (sym is) of_sort) (left_made d)

pub returns-clause-right_sort : goal.returns-clause-right_sort
returns-clause-right_sort c =
    let d = (goal.at.returns-clause-right_sort c).After-put_join in
    let B = c.args.right.now in
    let U = new_right d in
    let of_sort = right_is_of_sort c.args.kind c.args.left.now B c.requires.typed c.args.view.rows c.args.left_source.now.rows c.args.right_source.now.rows c.requires.left.1 c.requires.right.1 c.requires.view.1 in
    IfOk-weaker c.put_join.result (λ after. after.1 ≡ U) (λ after. IsOfSort after.1 (sort_of B)) (λ after is. subst (λ M. IsOfSort M (sort_of B)) (sym is) of_sort) (right_made d)
