use Rattle.std.proofs.Common.{◌≡◌, ◌∙◌, false, ap, sym, subst, IfOk, true}
use Rattle.plain_values.proofs.Common.{IfOk-weaker, Row}
use Rattle.fd_laws.proofs.Common.{from_those}
use Rattle.plain_values.specs.SortedSet as set
use Rattle.lens_specs.specs.Common.{MeetsTree, select_get, holds, has, those}
use Rattle.lens_specs.specs.Revision as spec
use Rattle.whole_put.specs.Shows.{is_shown}
use Rattle.whole_put.proofs.Selections.{put_back, put_is, put_rows, shown_after}
use Rattle.whole_put.proofs.selecting.put_select.Goals as goal
use Rattle.whole_put.proofs.selecting.put_select.Goals.{After-union}

pub hidden_after-requires-clause-hidden : goal.hidden_after-requires-clause-hidden
hidden_after-requires-clause-hidden c = λ row there.
    (from_those (is_shown c.args.pred.now false) c.args.source.now.rows row (ap (λ r. has r.rows row) (sym c.in_ok-hidden.ensures.value) ∙ there)).1

-- the rows that are still hidden, and the view
made : (c : After-union) → IfOk c.union.result (λ after. after ≡ record c.args.source.now { rows = put_rows c.args.tree.now (holds c.args.pred.now) c.args.view.now.rows c.args.source.now.rows })
made c =
    let p = is_shown c.args.pred.now false in
    let T = c.args.tree.now in
    let N = c.args.view.now.rows in
    let still : c.in_ok-still_hidden.still_hidden ≡ record c.args.source.now { rows = those p (spec.revise T (those p c.args.source.now.rows) N) } =
    c.in_ok-still_hidden.ensures.value ∙ (λ i. record { columns = (c.in_ok-hidden.ensures.value i).columns; rows = those p (spec.revise T (c.in_ok-hidden.ensures.value i).rows N) }) in
    subst (λ u. IfOk c.union.result (λ after. after ≡ u)) (λ i. record { columns = (still i).columns; rows = set.union (still i).rows N }) c.union.ensures

pub returns-clause-value : goal.returns-clause-value
returns-clause-value c =
    let M = c.args.source.now in
    let same = put_is c.args.tree.now (holds c.args.pred.now) c.args.view.now.rows M.rows in
    subst (λ rows. IfOk c.union.result (λ after. after ≡ record M { rows = rows })) same (made (goal.at.returns-clause-value c).After-union)

pub returns-clause-put_get : goal.returns-clause-put_get
returns-clause-put_get c =
    let P = holds c.args.pred.now in
    let N = c.args.view.now.rows in
    let M = c.args.source.now in
    IfOk-weaker c.union.result (λ after. after ≡ record M { rows = put_rows c.args.tree.now P N M.rows })
    (λ after. ((row : Row) → has N row ≡ true → P row ≡ true) → select_get P after.rows ≡ N)
    (λ after is all. ap (λ r. select_get P r.rows) is ∙ shown_after c.args.tree.now P N M.rows all)
    (made (goal.at.returns-clause-put_get c).After-union)

pub returns-clause-get_put : goal.returns-clause-get_put
returns-clause-get_put c =
    let T = c.args.tree.now in
    let P = holds c.args.pred.now in
    let N = c.args.view.now.rows in
    let M = c.args.source.now in
    IfOk-weaker c.union.result (λ after. after ≡ record M { rows = put_rows T P N M.rows })
    (λ after. MeetsTree M.rows T → N ≡ select_get P M.rows → after ≡ M)
    (λ after is meets shown. is ∙ (λ i. record { columns = M.columns; rows = (ap (λ V. put_rows T P V M.rows) shown ∙ put_back T P M.columns M.rows c.hidden_after.ensures.tree meets c.part.ensures.fit) i }))
    (made (goal.at.returns-clause-get_put c).After-union)
