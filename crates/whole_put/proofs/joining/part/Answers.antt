use Rattle.std.proofs.Common.{◌≡◌, ◌∙◌, ap, subst, sym}
use Rattle.plain_values.specs.SortedSet as set
use Rattle.lens_specs.specs.Common.{names, Fits, project}
use Rattle.row_sets.proofs.Parts.{projected_fit}
use Rattle.whole_put.proofs.joining.part.Goals as goal

pub with_rows-requires : goal.with_rows-requires
with_rows-requires c = λ row there.
    let U = c.args.columns.now in
    let R = c.args.relation.now in
    let rows : c.in_ok-rows.rows ≡ project (names U) R.rows = c.in_ok-rows.ensures ∙ (λ i. project (c.in_ok-names.ensures i) (c.rows.ensures.rows i)) in
    subst (λ V. Fits V row) (c.requires ∙ sym c.in_ok-copy.ensures)
    (projected_fit (names U) R.columns R.rows c.rows.ensures.fit row (ap (λ s. set.contains s row) (sym rows) ∙ there))
