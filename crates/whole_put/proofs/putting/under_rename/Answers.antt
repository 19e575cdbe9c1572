use Rattle.std.proofs.Common.{◌≡◌, ◌∙◌, ap, subst, sym, IfOk}
use Rattle.plain_values.proofs.Common.{IfOk-weaker}
use Rattle.plain_values.specs.SortedSet as set
use Rattle.lens_specs.specs.Common.{names, sort_of, rename_put, Relation, renamed_columns, IsOfSort}
use Rattle.whole_put.proofs.Lenses.{over, renamed_is_of_sort, source_renamed}
use Rattle.whole_put.proofs.putting.under_rename.Goals as goal
use Rattle.whole_put.proofs.putting.under_rename.Goals.{After-put_rename}

pub put_rename-requires-clause-has : goal.put_rename-requires-clause-has
put_rename-requires-clause-has c = ap (λ U. set.contains (names U) c.args.col.now) c.requires.source.0 ∙ c.requires.typed.1.column

pub put_rename-requires-clause-free : goal.put_rename-requires-clause-free
put_rename-requires-clause-free c = ap (λ U. set.contains (names U) c.args.to.now) c.requires.source.0 ∙ c.requires.typed.1.free

pub put_rename-requires-clause-columns : goal.put_rename-requires-clause-columns
put_rename-requires-clause-columns c = c.requires.view.0 ∙ sym (ap (renamed_columns c.args.col.now c.args.to.now) c.requires.source.0)

-- the source is the one of the definition
made : (c : After-put_rename) → IfOk c.put_rename.result (λ after. after ≡ over c.args.of.now (rename_put c.args.col.now c.args.to.now c.args.view.rows))
made c =
    let C = c.args.of.now in
    let A = c.args.col.now in
    let B = c.args.to.now in
    let N = c.args.view.rows in
    let M = c.args.source.now in
    IfOk-weaker c.put_rename.result (λ after. after ≡ record M { rows = rename_put A B N }) (λ after. after ≡ over C (rename_put A B N))
    (λ after is. source_renamed C A B N M after c.requires.source.0 is)
    c.put_rename.ensures.value

pub returns-clause-rows : goal.returns-clause-rows
returns-clause-rows c =
    let U = over c.args.of.now (rename_put c.args.col.now c.args.to.now c.args.view.rows) in
    IfOk-weaker c.put_rename.result (λ after. after ≡ U) (λ after. after.rows ≡ U.rows) (λ after is. ap (λ (M : Relation). M.rows) is) (made (goal.at.returns-clause-rows c).After-put_rename)

pub returns-clause-sort : goal.returns-clause-sort
returns-clause-sort c =
    let C = c.args.of.now in
    let N = c.args.view.rows in
    let U = over C (rename_put c.args.col.now c.args.to.now N) in
    let of_sort = renamed_is_of_sort C c.args.col.now c.args.to.now N c.args.source.now.rows c.requires.typed c.requires.source.1 c.requires.view.1 in
    IfOk-weaker c.put_rename.result (λ after. after ≡ U) (λ after. IsOfSort after (sort_of C)) (λ after is. subst (λ K. IsOfSort K (sort_of C)) (sym is) of_sort)
    (made (goal.at.returns-clause-sort c).After-put_rename)
