use Rattle.std.proofs.Common.{◌≡◌, ◌∙◌, ap, sym}
use Rattle.plain_values.specs.SortedSet as set
use Rattle.lens_specs.specs.Common.{names, rename_get, rename_put, Relation, image, renamed_row}
use Rattle.whole_put.proofs.Renames.{fits_over, view_lacks, source_fits, put_get, get_put}
use Rattle.whole_put.proofs.renaming.put_rename.Goals as goal
use Rattle.whole_put.proofs.renaming.put_rename.Goals.{After-with_rows}

pub rename_set-requires-clause-over : goal.rename_set-requires-clause-over
rename_set-requires-clause-over c = λ row i.
    fits_over c.args.view.now.columns c.in_ok-names.names row (c.in_ok-names.ensures ∙ ap names c.columns.ensures) (c.rows.ensures.fit row (ap (λ M. set.contains M row) (sym c.rows.ensures.rows) ∙ i))

pub rename_set-requires-clause-free : goal.rename_set-requires-clause-free
rename_set-requires-clause-free c =
    view_lacks c.args.col.now c.args.to.now c.args.source.now c.args.view.now c.requires.has c.requires.free c.requires.columns c.columns_and_rows.ensures.fit c.rows.ensures.fit
    c.in_ok-names.names (c.in_ok-names.ensures ∙ ap names c.columns.ensures)

pub with_rows-requires : goal.with_rows-requires
with_rows-requires c =
    source_fits c.args.col.now c.args.to.now c.args.source.now c.args.view.now c.requires.has c.requires.free c.requires.columns c.columns_and_rows.ensures.fit c.rows.ensures.fit
    c.in_ok-copy.field-0 c.in_ok-rows.rows (c.in_ok-copy.ensures ∙ c.columns_and_rows.ensures.columns) (c.in_ok-rows.ensures ∙ ap (image (renamed_row c.args.to.now c.args.col.now)) c.rows.ensures.rows)

value : (c : After-with_rows) → c.with_rows.result ≡ record c.args.source.now { rows = rename_put c.args.col.now c.args.to.now c.args.view.now.rows }
unfolding rename_put
value c =
    let columns = c.in_ok-copy.ensures ∙ c.columns_and_rows.ensures.columns in
    let rows = c.in_ok-rows.ensures ∙ ap (image (renamed_row c.args.to.now c.args.col.now)) c.rows.ensures.rows in
    c.with_rows.ensures ∙ (λ i. record { columns = columns i; rows = rows i })

pub returns-clause-value : goal.returns-clause-value
returns-clause-value c = value (goal.at.returns-clause-value c).After-with_rows

pub returns-clause-put_get : goal.returns-clause-put_get
returns-clause-put_get c =
    ap (λ (M : Relation). rename_get c.args.col.now c.args.to.now M.rows) (value (goal.at.returns-clause-put_get c).After-with_rows)
    ∙ put_get c.args.col.now c.args.to.now c.args.source.now c.args.view.now c.requires.has c.requires.free c.requires.columns c.columns_and_rows.ensures.fit c.rows.ensures.fit

pub returns-clause-get_put : goal.returns-clause-get_put
returns-clause-get_put c = λ same.
    value (goal.at.returns-clause-get_put c).After-with_rows
    ∙ ap (λ R. record c.args.source.now { rows = R })
    (get_put c.args.col.now c.args.to.now c.args.source.now c.args.view.now c.requires.has c.requires.free c.requires.columns c.columns_and_rows.ensures.fit c.rows.ensures.fit same)
