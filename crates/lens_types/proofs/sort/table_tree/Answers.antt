use Rattle.std.proofs.Common.{◌∙◌, ap, sym, refl, option_map}
use Rattle.plain_values.proofs.Common.{err_from_is_err_and}
use Rattle.lens_specs.specs.Common.{or_else, unknown_column, unknown_in}
use Rattle.lens_types.specs.Unknown.{unknown_said}
use Rattle.lens_types.proofs.Tables.{known_said, all_known, sort_unknown, tree_refused, pred_refused, size_refused, sort_taken}
use Rattle.lens_types.proofs.sort.table_tree.Goals as goal

pub returns-in-Some : goal.returns-in-Some
returns-in-Some c =
    let U = c.args.cols.now in
    let F = c.args.deps.now in
    let P = c.args.pred.now in
    rw c.from.ensures (
      sort_unknown U F P (unknown_column c.in-Some.name) (ap (option_map unknown_column) (sym c.in-Some.is) ∙ c.unknown_column.ensures
          ∙ ap (λ o. or_else (unknown_in U F) (option_map unknown_column o)) (ap unknown_said c.check-suits.ensures ∙ known_said U P)),
      refl,
    )

pub returns-in_err-tree : goal.returns-in_err-tree
returns-in_err-tree c =
    let p = err_from_is_err_and c.from_residual.result c.from_residual.ensures.1 in
    let known = all_known c.args.cols.now c.args.deps.now c.args.pred.now c.check-suits.result c.unknown_column.result c.check-suits.ensures c.unknown_column.ensures c.in_default.is in
    rw (p.1, p.2) (tree_refused c.args.cols.now c.args.deps.now c.args.pred.now c.in_err-tree.field-0.0 known c.in_err-tree.ensures)

pub returns-in_err-suits : goal.returns-in_err-suits
returns-in_err-suits c =
    let p = err_from_is_err_and c.from_residual-in_err-suits.result c.from_residual-in_err-suits.ensures.1 in
    let known = all_known c.args.cols.now c.args.deps.now c.args.pred.now c.check-suits.result c.unknown_column.result c.check-suits.ensures c.unknown_column.ensures c.in_default.is in
    rw (p.1, p.2) (pred_refused c.args.cols.now c.args.deps.now c.args.pred.now c.in_ok-tree.tree c.in_err-suits.field-0.0 known c.in_ok-tree.ensures (sym c.check-suits.ensures ∙ c.in_err-suits.was))

pub returns-in-Some-size_fault : goal.returns-in-Some-size_fault
returns-in-Some-size_fault c =
    let known = all_known c.args.cols.now c.args.deps.now c.args.pred.now c.check-suits.result c.unknown_column.result c.check-suits.ensures c.unknown_column.ensures c.in_default.is in
    rw c.from-in-Some-size_fault.ensures (size_refused c.args.cols.now c.args.deps.now c.args.pred.now c.in_ok-tree.tree c.in-Some-size_fault.fault known c.in_ok-tree.ensures (sym c.check-suits.ensures ∙ c.in_ok-suits.was) (c.in-Some-size_fault.ensures c.in_ok-tree.tree))

pub returns-in-None : goal.returns-in-None
returns-in-None c =
    let known = all_known c.args.cols.now c.args.deps.now c.args.pred.now c.check-suits.result c.unknown_column.result c.check-suits.ensures c.unknown_column.ensures c.in_default.is in
    sort_taken c.args.cols.now c.args.deps.now c.args.pred.now c.in_ok-tree.tree known c.in_ok-tree.ensures (sym c.check-suits.ensures ∙ c.in_ok-suits.was) (c.in-None.ensures c.in_ok-tree.tree)
