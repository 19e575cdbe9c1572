use Rattle.std.proofs.Common.{◌∙◌, ap, sym, option_map}
use Rattle.lens_specs.specs.Common.{is_column, column_taken, too_much, when}
use Rattle.lens_types.specs.Faults.{fault_view}
use Rattle.lens_types.specs.Sorts.{sort_from}
use Rattle.lens_types.proofs.Renamings.{too_much_refused, last_test}
use Rattle.lens_types.proofs.renaming.rename_fault.Goals as goal

pub returns-in-Some : goal.returns-in-Some
returns-in-Some c =
    let s = c.args.source.now in
    too_much_refused c.args.nodes s c.args.col.now c.args.to.now c.in-Some.fault
    (ap (λ U. is_column U c.args.col.now) (sym c.cols.ensures.value) ∙ sym c.has_column.ensures.there ∙ c.if-not-has_column.false)
    (ap (option_map fault_view) (sym c.in-Some.is) ∙ c.size_fault.ensures s.tree ∙ (λ i. too_much c.args.nodes (sort_from (c.cols-2.ensures.value i) (c.pred.ensures.value i) s.tree)))

pub returns-then-has_column : goal.returns-then-has_column
returns-then-has_column c =
    let s = c.args.source.now in
    ap (λ b. when b (column_taken c.args.to.now)) (sym c.if-has_column.true ∙ c.has_column-2.ensures.there ∙ ap (λ U. is_column U c.args.to.now) c.cols-3.ensures.value)
    ∙ last_test c.args.nodes s c.args.col.now c.args.to.now
    (ap (λ U. is_column U c.args.col.now) (sym c.cols.ensures.value) ∙ sym c.has_column.ensures.there ∙ c.if-not-has_column.false)
    (ap (option_map fault_view) (sym c.in_default.is) ∙ c.size_fault.ensures s.tree ∙ (λ i. too_much c.args.nodes (sort_from (c.cols-2.ensures.value i) (c.pred.ensures.value i) s.tree)))

pub returns : goal.returns
returns c =
    let s = c.args.source.now in
    ap (λ b. when b (column_taken c.args.to.now)) (sym c.if-has_column.false ∙ c.has_column-2.ensures.there ∙ ap (λ U. is_column U c.args.to.now) c.cols-3.ensures.value)
    ∙ last_test c.args.nodes s c.args.col.now c.args.to.now
    (ap (λ U. is_column U c.args.col.now) (sym c.cols.ensures.value) ∙ sym c.has_column.ensures.there ∙ c.if-not-has_column.false)
    (ap (option_map fault_view) (sym c.in_default.is) ∙ c.size_fault.ensures s.tree ∙ (λ i. too_much c.args.nodes (sort_from (c.cols-2.ensures.value i) (c.pred.ensures.value i) s.tree)))
