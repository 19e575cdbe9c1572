use Rattle.std.proofs.Common.{◌∙◌, ap, sym}
use Rattle.fd_laws.proofs.Common.{no_kind}
use Rattle.lens_specs.specs.Common.{names, rename_get, image, renamed_row, renamed_columns}
use Rattle.plain_values.specs.SortedSet as set
use Rattle.whole_put.proofs.Renames.{fits_over, shown_fits}
use Rattle.whole_put.proofs.renaming.get_rename.Goals as goal

pub rename_columns-requires : goal.rename_columns-requires
rename_columns-requires c = no_kind c.columns_and_rows.result.0.now c.args.to.now (ap (λ U. set.contains (names U) c.args.to.now) c.columns_and_rows.ensures.columns ∙ c.requires)

pub rename_set-requires-clause-over : goal.rename_set-requires-clause-over
rename_set-requires-clause-over c = λ row i.
    fits_over c.args.source.now.columns c.in_ok-names.names row (c.in_ok-names.ensures ∙ ap names c.columns_and_rows.ensures.columns) (c.columns_and_rows.ensures.fit row (ap (λ M. set.contains M row) (sym c.columns_and_rows.ensures.rows) ∙ i))

pub rename_set-requires-clause-free : goal.rename_set-requires-clause-free
rename_set-requires-clause-free c = ap (λ C. set.contains C c.args.to.now) (c.in_ok-names.ensures ∙ ap names c.columns_and_rows.ensures.columns) ∙ c.requires

pub with_rows-requires : goal.with_rows-requires
with_rows-requires c = shown_fits c.args.col.now c.args.to.now c.args.source.now c.in_ok-columns.columns c.in_ok-rows.rows c.columns_and_rows.ensures.fit
    (c.in_ok-columns.ensures ∙ ap (renamed_columns c.args.col.now c.args.to.now) c.columns_and_rows.ensures.columns)
    (c.in_ok-rows.ensures ∙ ap (image (renamed_row c.args.col.now c.args.to.now)) c.columns_and_rows.ensures.rows)

pub returns : goal.returns
unfolding rename_get
returns c =
    let columns = c.in_ok-columns.ensures ∙ ap (renamed_columns c.args.col.now c.args.to.now) c.columns_and_rows.ensures.columns in
    let rows = c.in_ok-rows.ensures ∙ ap (image (renamed_row c.args.col.now c.args.to.now)) c.columns_and_rows.ensures.rows in
    c.with_rows.ensures ∙ (λ i. record { columns = columns i; rows = rows i })
