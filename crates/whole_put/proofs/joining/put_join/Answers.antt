use Rattle.std.proofs.Common.{◌≡◌, ◌∙◌, ap, subst, sym, true}
use Rattle.plain_values.proofs.Common.{Row}
use Rattle.lens_specs.specs.Common.{both_columns, kinds_differ, names, join_get, join_left_after, join_right_after, Columns, Fits, Relation, has, project, columns_in}
use Rattle.whole_put.proofs.Cuts.{left_columns, right_columns}
use Rattle.whole_put.proofs.Joins.{get_put_left, get_put_right, left_made, put_get, right_made}
use Rattle.whole_put.proofs.joining.put_join.Goals as goal
use Rattle.whole_put.proofs.joining.put_join.Goals.{In_ok-new_left}

part_of : (U : Columns) (view : Relation) → Relation
part_of U view = record { columns = U; rows = project (names U) view.rows }

left_value : (c : In_ok-new_left) → c.in_ok-new_left.new_left ≡ record c.args.left.now { rows = join_left_after c.args.kind (names c.args.left.now.columns) (names c.args.right.now.columns) c.args.left_tree.now c.args.right_tree.now c.args.view.now.rows c.args.left.now.rows c.args.right.now.rows }
unfolding part_of
left_value c = left_made c.args.kind c.args.left.now c.args.right.now c.args.left_tree.now c.args.right_tree.now c.args.view.now c.in_ok-left_part.left_part c.in_ok-right_part.right_part
    c.in_ok-merged.merged c.in_ok-merged_right.merged_right c.in_ok-new_left.new_left c.in_ok-new_left.new_right
    (c.in_ok-left_part.ensures.value ∙ ap (λ U. part_of U c.args.view.now) c.columns.ensures) (c.in_ok-right_part.ensures.value ∙ ap (λ U. part_of U c.args.view.now) c.columns-2.ensures)
    c.in_ok-merged.ensures.value c.in_ok-merged_right.ensures.value c.in_ok-new_left.ensures.left c.in_ok-new_left.ensures.right

right_value : (c : In_ok-new_left) → c.in_ok-new_left.new_right ≡ record c.args.right.now { rows = join_right_after c.args.kind (names c.args.left.now.columns) (names c.args.right.now.columns) c.args.left_tree.now c.args.right_tree.now c.args.view.now.rows c.args.left.now.rows c.args.right.now.rows }
unfolding part_of
right_value c = right_made c.args.kind c.args.left.now c.args.right.now c.args.left_tree.now c.args.right_tree.now c.args.view.now c.in_ok-left_part.left_part c.in_ok-right_part.right_part
    c.in_ok-merged.merged c.in_ok-merged_right.merged_right c.in_ok-new_left.new_left c.in_ok-new_left.new_right
    (c.in_ok-left_part.ensures.value ∙ ap (λ U. part_of U c.args.view.now) c.columns.ensures) (c.in_ok-right_part.ensures.value ∙ ap (λ U. part_of U c.args.view.now) c.columns-2.ensures)
    c.in_ok-merged.ensures.value c.in_ok-merged_right.ensures.value c.in_ok-new_left.ensures.left c.in_ok-new_left.ensures.right

view_fits : (c : In_ok-new_left) → (r : Row) → has c.args.view.now.rows r ≡ true → Fits (both_columns c.args.left.now.columns c.args.right.now.columns) r
view_fits c r i = subst (λ U. Fits U r) c.requires.columns (c.part.ensures.fit r i)

pub part-requires : goal.part-requires
part-requires c =
    (λ i. columns_in (c.requires.columns i) (names (c.columns.ensures i))) ∙ left_columns c.args.left.now.columns c.args.right.now.columns ∙ sym c.columns.ensures

pub part-requires-2 : goal.part-requires-2
part-requires-2 c =
    (λ i. columns_in (c.requires.columns i) (names (c.columns-2.ensures i))) ∙ right_columns c.args.left.now.columns c.args.right.now.columns c.requires.can.kinds ∙ sym c.columns-2.ensures

pub returns-clause-left : goal.returns-clause-left
returns-clause-left c = left_value (goal.at.returns-clause-left c).In_ok-new_left

pub returns-clause-right : goal.returns-clause-right
returns-clause-right c = right_value (goal.at.returns-clause-right c).In_ok-new_left

pub returns-clause-put_get : goal.returns-clause-put_get
returns-clause-put_get c =
    let d = (goal.at.returns-clause-put_get c).In_ok-new_left in
    let A = c.args.left.now in
    let B = c.args.right.now in
    let q = c.requires in
    (λ i. join_get (names A.columns) (names B.columns) (left_value d i).rows (right_value d i).rows)
    ∙ put_get c.args.kind A B c.args.left_tree.now c.args.right_tree.now c.args.view.now.rows c.merge.ensures.tree c.merge-2.ensures.tree q.can c.merge.ensures.fit c.merge-2.ensures.fit q.left_meets q.right_meets (view_fits d) q.view_left q.view_right

pub returns-clause-get_put : goal.returns-clause-get_put
returns-clause-get_put c = λ same.
    let d = (goal.at.returns-clause-get_put c).In_ok-new_left in
    let A = c.args.left.now in
    let B = c.args.right.now in
    let q = c.requires in
    let left = get_put_left c.args.kind A B c.args.left_tree.now c.args.right_tree.now c.args.view.now.rows c.merge.ensures.tree c.merge-2.ensures.tree q.can c.merge.ensures.fit c.merge-2.ensures.fit q.left_meets q.right_meets (view_fits d) q.view_left q.view_right same in
    let right = get_put_right c.args.kind A B c.args.left_tree.now c.args.right_tree.now c.args.view.now.rows c.merge.ensures.tree c.merge-2.ensures.tree q.can c.merge.ensures.fit c.merge-2.ensures.fit q.left_meets q.right_meets (view_fits d) q.view_left q.view_right same in
    let new_left : c.in_ok-new_left.new_left ≡ A = left_value d ∙ (λ i. record A { rows = left i }) in
    let new_right : c.in_ok-new_left.new_right ≡ B = right_value d ∙ (λ i. record B { rows = right i }) in
    λ i. (new_left i, new_right i)

pub merge-requires : goal.merge-requires
merge-requires c = ap (λ (R : Relation). R.columns) c.in_ok-left_part.ensures.value ∙ c.columns.ensures

pub merge-requires-2 : goal.merge-requires-2
merge-requires-2 c = ap (λ (R : Relation). R.columns) c.in_ok-right_part.ensures.value ∙ c.columns-2.ensures

pub without_surplus-requires-clause-kinds : goal.without_surplus-requires-clause-kinds
without_surplus-requires-clause-kinds c =
    let merged = ap (λ (R : Relation). R.columns) c.in_ok-merged.ensures.value in
    let merged_right = ap (λ (R : Relation). R.columns) c.in_ok-merged_right.ensures.value in
    (λ i. kinds_differ (merged i) (merged_right i)) ∙ c.requires.can.kinds

pub without_surplus-requires-clause-columns : goal.without_surplus-requires-clause-columns
without_surplus-requires-clause-columns c =
    let merged = ap (λ (R : Relation). R.columns) c.in_ok-merged.ensures.value in
    let merged_right = ap (λ (R : Relation). R.columns) c.in_ok-merged_right.ensures.value in
    c.requires.columns ∙ sym (λ i. both_columns (merged i) (merged_right i))
