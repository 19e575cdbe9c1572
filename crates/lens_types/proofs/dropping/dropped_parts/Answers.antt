use Rattle.std.proofs.Common.{◌≡◌, ◌∙◌, ap, sym, Ok}
use Rattle.plain_values.proofs.Common.{err_from_is_err_and}
use Rattle.lens_specs.specs.Common.{without_column, one, tree_without}
use Rattle.lens_types.specs.Drops.{column_fault, unfilled}
use Rattle.lens_types.proofs.Projections.{column_refused, no_fault, rest_refused, size_refused, projection_taken}
use Rattle.lens_types.proofs.dropping.dropped_parts.Goals as goal

pub returns-in-Some : goal.returns-in-Some
returns-in-Some c =
    let s = c.args.source.now in
    rw c.from.ensures (column_refused c.args.nodes s c.args.col.now c.args.by.now c.args.fill.now c.in-Some.fault
    (c.in-Some.ensures ∙ ap (λ U. column_fault U c.tree.result.now c.args.col.now c.args.by.now c.args.fill.now) c.cols.ensures.value ∙ ap (λ T. column_fault s.columns T c.args.col.now c.args.by.now c.args.fill.now) c.tree.ensures.value))

pub returns-in_err-rest : goal.returns-in_err-rest
returns-in_err-rest c =
    let s = c.args.source.now in
    let none = no_fault c.cols.result.now s.columns c.tree.result.now s.tree c.args.col.now c.args.by.now c.args.fill.now c.column_fault.result c.column_fault.ensures c.in_default.is c.cols.ensures.value c.tree.ensures.value in
    let p = err_from_is_err_and c.from_residual.result c.from_residual.ensures.1 in
    rw (p.1, p.2) (rest_refused c.args.nodes s c.args.col.now c.args.by.now c.args.fill.now c.in_err-rest.field-0.0 none
    (rw (← c.pred.ensures.value) c.in_err-rest.ensures))

pub returns-in-Some-size_fault : goal.returns-in-Some-size_fault
returns-in-Some-size_fault c =
    let s = c.args.source.now in
    let none = no_fault c.cols.result.now s.columns c.tree.result.now s.tree c.args.col.now c.args.by.now c.args.fill.now c.column_fault.result c.column_fault.ensures c.in_default.is c.cols.ensures.value c.tree.ensures.value in
    let rest : unfilled c.args.col.now c.args.fill.now s.predicate ≡ Ok c.in_ok-rest.rest = ap (unfilled c.args.col.now c.args.fill.now) (sym c.pred.ensures.value) ∙ c.in_ok-rest.ensures in
    let cols : c.in_ok-cols.cols ≡ without_column s.columns c.args.col.now = c.in_ok-cols.ensures ∙ ap (λ U. without_column U c.args.col.now) c.cols-2.ensures.value in
    rw c.from-in-Some-size_fault.ensures
    (size_refused c.args.nodes s c.args.col.now c.args.by.now c.args.fill.now c.in_ok-cols.cols c.in_ok-rest.rest c.in-Some-size_fault.fault none rest cols
    (c.in-Some-size_fault.ensures (tree_without (one c.args.col.now) s.tree)))

pub returns-in-None : goal.returns-in-None
returns-in-None c =
    let s = c.args.source.now in
    let none = no_fault c.cols.result.now s.columns c.tree.result.now s.tree c.args.col.now c.args.by.now c.args.fill.now c.column_fault.result c.column_fault.ensures c.in_default.is c.cols.ensures.value c.tree.ensures.value in
    let rest : unfilled c.args.col.now c.args.fill.now s.predicate ≡ Ok c.in_ok-rest.rest = ap (unfilled c.args.col.now c.args.fill.now) (sym c.pred.ensures.value) ∙ c.in_ok-rest.ensures in
    let cols : c.in_ok-cols.cols ≡ without_column s.columns c.args.col.now = c.in_ok-cols.ensures ∙ ap (λ U. without_column U c.args.col.now) c.cols-2.ensures.value in
    projection_taken c.args.nodes s c.args.col.now c.args.by.now c.args.fill.now c.in_ok-cols.cols c.in_ok-rest.rest none rest cols
    (c.in-None.ensures (tree_without (one c.args.col.now) s.tree))
