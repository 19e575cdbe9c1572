use Rattle.std.proofs.Common.{◌≡◌, ◌∙◌, ap, subst, sym, IfOk}
use Rattle.plain_values.proofs.Common.{IfOk-weaker}
use Rattle.lens_specs.specs.Common.{sort_of, select_put, holds, Relation, IsOfSort}
use Rattle.whole_put.proofs.Lenses.{over, selected_is_of_sort, source_selected, under_selected}
use Rattle.whole_put.proofs.putting.under_select.Goals as goal
use Rattle.whole_put.proofs.putting.under_select.Goals.{After-put_select}

pub put_select-requires : goal.put_select-requires
put_select-requires c = c.requires.view.0 ∙ sym c.requires.source.0

-- the source is the one of the definition
made : (c : After-put_select) → IfOk c.put_select.result (λ after. after ≡ over c.args.of.now (under_selected c.args.pred.now c.args.of.now c.args.view.rows c.args.source.now.rows))
made c =
    let C = c.args.of.now in
    let P = c.args.pred.now in
    let N = c.args.view.rows in
    let M = c.args.source.now in
    let T = c.tree.result.now in
    IfOk-weaker c.put_select.result (λ after. after ≡ record M { rows = select_put T (holds P) N M.rows }) (λ after. after ≡ over C (under_selected P C N M.rows))
    (λ after is. source_selected C P N M after T c.sort.result.now c.sort.ensures.typed c.sort.ensures.given c.tree.ensures.value c.requires.source.0 is)
    c.put_select.ensures.value

pub returns-clause-rows : goal.returns-clause-rows
returns-clause-rows c =
    let U = over c.args.of.now (under_selected c.args.pred.now c.args.of.now c.args.view.rows c.args.source.now.rows) in
    IfOk-weaker c.put_select.result (λ after. after ≡ U) (λ after. after.rows ≡ U.rows) (λ after is. ap (λ (M : Relation). M.rows) is) (made (goal.at.returns-clause-rows c).After-put_select)

pub returns-clause-sort : goal.returns-clause-sort
returns-clause-sort c =
    let C = c.args.of.now in
    let N = c.args.view.rows in
    let M = c.args.source.now.rows in
    let U = over C (under_selected c.args.pred.now C N M) in
    let of_sort = selected_is_of_sort C c.args.pred.now N M c.requires.typed c.requires.source.1 c.requires.view.1 in
    IfOk-weaker c.put_select.result (λ after. after ≡ U) (λ after. IsOfSort after (sort_of C)) (λ after is. subst (λ K. IsOfSort K (sort_of C)) (sym is) of_sort)
    (made (goal.at.returns-clause-sort c).After-put_select)
