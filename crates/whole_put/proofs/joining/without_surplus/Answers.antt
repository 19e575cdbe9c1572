use Rattle.std.proofs.Common.{◌∙◌, ap}
use Rattle.lens_specs.specs.Common.{names, Relation, columns_in}
use Rattle.whole_put.specs.Lost.{kept_of, left_without, right_without}
use Rattle.whole_put.proofs.Cuts.{left_columns, right_columns}
use Rattle.whole_put.proofs.joining.without_surplus.Goals as goal

pub left_without-requires-clause-over : goal.left_without-requires-clause-over
left_without-requires-clause-over c =
    ap (λ (R : Relation). columns_in R.columns (names c.args.left.now.columns)) c.in_ok-over.ensures ∙ left_columns c.args.left.now.columns c.args.right.columns

pub left_without-requires-clause-kept : goal.left_without-requires-clause-kept
left_without-requires-clause-kept c = ap (λ (R : Relation). R.columns) c.in_ok-kept.ensures

pub right_without-requires-clause-over : goal.right_without-requires-clause-over
right_without-requires-clause-over c =
    ap (λ (R : Relation). columns_in R.columns (names c.args.right.columns)) c.in_ok-over.ensures
    ∙ right_columns c.args.left.now.columns c.args.right.columns c.requires.kinds

pub right_without-requires-clause-kept : goal.right_without-requires-clause-kept
right_without-requires-clause-kept c = ap (λ (R : Relation). R.columns) c.in_ok-kept.ensures

pub returns-clause-left : goal.returns-clause-left
returns-clause-left c =
    let A = c.args.left.now in
    let over = ap (λ (R : Relation). R.rows) c.in_ok-over.ensures in
    let kept = ap (λ (R : Relation). R.rows) c.in_ok-kept.ensures ∙ ap (kept_of c.args.parts.now) over in
    c.in_ok-new_left.ensures ∙ (λ i. record A { rows = left_without c.args.kind (names A.columns) (over i) (kept i) A.rows })

pub returns-clause-right : goal.returns-clause-right
returns-clause-right c =
    let B = c.args.right in
    let over = ap (λ (R : Relation). R.rows) c.in_ok-over.ensures in
    let kept = ap (λ (R : Relation). R.rows) c.in_ok-kept.ensures ∙ ap (kept_of c.args.parts.now) over in
    c.in_ok-new_right.ensures ∙ (λ i. record B { rows = right_without c.args.kind (names B.columns) (over i) (kept i) B.rows })
