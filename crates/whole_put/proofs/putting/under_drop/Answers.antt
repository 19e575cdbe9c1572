use Rattle.std.proofs.Common.{◌≡◌, ◌∙◌, ap, subst, sym, IfOk}
use Rattle.plain_values.proofs.Common.{IfOk-weaker}
use Rattle.lens_specs.specs.Common.{without_column, sort_of, drop_put, Relation, IsOfSort}
use Rattle.whole_put.proofs.Lenses.{column_apart, column_fits, determined, dropped_is_of_sort, over, source_dropped}
use Rattle.whole_put.proofs.putting.under_drop.Goals as goal
use Rattle.whole_put.proofs.putting.under_drop.Goals.{After-put_drop}

pub put_drop-requires-clause-column : goal.put_drop-requires-clause-column
put_drop-requires-clause-column c =
    column_fits c.args.of.now c.args.col.now c.args.by.now c.args.fill.now c.requires.typed c.args.source.now c.requires.source.0

pub put_drop-requires-clause-apart : goal.put_drop-requires-clause-apart
put_drop-requires-clause-apart c = column_apart c.args.of.now c.args.col.now c.args.by.now c.args.fill.now c.requires.typed

pub put_drop-requires-clause-determined : goal.put_drop-requires-clause-determined
put_drop-requires-clause-determined c =
    determined c.args.of.now c.args.col.now c.args.by.now c.args.fill.now c.requires.typed c.args.source.now.rows c.requires.source.1

pub put_drop-requires-clause-columns : goal.put_drop-requires-clause-columns
put_drop-requires-clause-columns c = c.requires.view.0 ∙ sym (ap (λ U. without_column U c.args.col.now) c.requires.source.0)

-- the source is the one of the definition
made : (c : After-put_drop) → IfOk c.put_drop.result (λ after. after ≡ over c.args.of.now (drop_put c.args.col.now c.args.by.now c.args.fill.now c.args.view.rows c.args.source.now.rows))
made c =
    let C = c.args.of.now in
    let A = c.args.col.now in
    let X = c.args.by.now in
    let a = c.args.fill.now in
    let N = c.args.view.rows in
    let M = c.args.source.now in
    IfOk-weaker c.put_drop.result (λ after. after ≡ record M { rows = drop_put A X a N M.rows }) (λ after. after ≡ over C (drop_put A X a N M.rows))
    (λ after is. source_dropped C A X a N M after c.requires.source.0 is)
    c.put_drop.ensures.value

pub returns-clause-rows : goal.returns-clause-rows
returns-clause-rows c =
    let U = over c.args.of.now (drop_put c.args.col.now c.args.by.now c.args.fill.now c.args.view.rows c.args.source.now.rows) in
    IfOk-weaker c.put_drop.result (λ after. after ≡ U) (λ after. after.rows ≡ U.rows) (λ after is. ap (λ (M : Relation). M.rows) is) (made (goal.at.returns-clause-rows c).After-put_drop)

pub returns-clause-sort : goal.returns-clause-sort
returns-clause-sort c =
    let C = c.args.of.now in
    let N = c.args.view.rows in
    let M = c.args.source.now.rows in
    let U = over C (drop_put c.args.col.now c.args.by.now c.args.fill.now N M) in
    let of_sort = dropped_is_of_sort C c.args.col.now c.args.by.now c.args.fill.now N M c.requires.typed c.requires.source.1 c.requires.view.1 in
    IfOk-weaker c.put_drop.result (λ after. after ≡ U) (λ after. IsOfSort after (sort_of C)) (λ after is. subst (λ K. IsOfSort K (sort_of C)) (sym is) of_sort)
    (made (goal.at.returns-clause-sort c).After-put_drop)
