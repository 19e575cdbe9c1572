use Rattle.std.proofs.Common.{◌≡◌, ◌∙◌, ap, subst, sym, true}
use Rattle.plain_values.proofs.Common.{Row}
use Rattle.plain_values.specs.SortedSet as set
use Rattle.lens_specs.specs.Common.{names, without_column, drop_get, drop_put, Fits, Relation, has}
use Rattle.whole_put.proofs.Drops.{fits, get_put, put_get}
use Rattle.whole_put.proofs.dropping.put_drop.Goals as goal
use Rattle.whole_put.proofs.dropping.put_drop.Goals.{In_ok-rows}

new_rows : (c : In_ok-rows) → c.in_ok-rows.rows ≡ drop_put c.args.col.now c.args.by.now c.args.fill.now c.args.view.now.rows c.args.source.now.rows
new_rows c = c.in_ok-rows.ensures ∙ (λ i. drop_put c.args.col.now c.args.by.now c.args.fill.now (c.rows.ensures.rows i) (c.rows-2.ensures.rows i))

view_fits : (c : In_ok-rows) → (r : Row) → has c.args.view.now.rows r ≡ true → Fits (without_column c.args.source.now.columns c.args.col.now) r
view_fits c r i = subst (λ U. Fits U r) c.requires.columns (c.rows.ensures.fit r i)

pub with_rows-requires : goal.with_rows-requires
with_rows-requires c = λ row there.
    let d = (goal.at.with_rows-requires c).In_ok-rows in
    let q = c.requires in
    subst (λ U. Fits U row) (sym (c.in_ok-columns.ensures ∙ c.columns.ensures))
    (fits c.args.source.now.columns c.args.col.now c.args.by.now c.args.fill.now c.args.view.now.rows c.args.source.now.rows q.column q.apart c.rows-2.ensures.fit q.determined (view_fits d) row
    (ap (λ s. set.contains s row) (sym (new_rows d)) ∙ there))

pub returns-clause-value : goal.returns-clause-value
returns-clause-value c =
    let d = (goal.at.returns-clause-value c).In_ok-rows in
    c.with_rows.ensures ∙ (λ i. record { columns = (c.in_ok-columns.ensures ∙ c.columns.ensures) i; rows = new_rows d i })

pub returns-clause-put_get : goal.returns-clause-put_get
returns-clause-put_get c =
    let d = (goal.at.returns-clause-put_get c).In_ok-rows in
    let q = c.requires in
    ap (λ (R : Relation). drop_get (names c.args.source.now.columns) c.args.col.now R.rows) c.with_rows.ensures ∙ ap (drop_get (names c.args.source.now.columns) c.args.col.now) (new_rows d)
    ∙ put_get c.args.source.now.columns c.args.col.now c.args.by.now c.args.fill.now c.args.view.now.rows c.args.source.now.rows q.column q.apart c.rows-2.ensures.fit q.determined (view_fits d)

pub returns-clause-get_put : goal.returns-clause-get_put
returns-clause-get_put c = λ same.
    let d = (goal.at.returns-clause-get_put c).In_ok-rows in
    let q = c.requires in
    let back = new_rows d ∙ get_put c.args.source.now.columns c.args.col.now c.args.by.now c.args.fill.now c.args.view.now.rows c.args.source.now.rows q.column q.apart c.rows-2.ensures.fit q.determined (view_fits d) same in
    c.with_rows.ensures ∙ (λ i. record { columns = (c.in_ok-columns.ensures ∙ c.columns.ensures) i; rows = back i })
