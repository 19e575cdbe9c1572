use Rattle.std.proofs.Common.{◌≡◌, ◌∙◌, false, [], ap, sym}
use Rattle.lens_specs.specs.Common.{those}
use Rattle.lens_specs.specs.Revision as spec
use Rattle.whole_put.specs.Shows.{is_shown}
use Rattle.whole_put.proofs.Selections.{all_kept, no_edges, revise_none}
use Rattle.whole_put.proofs.selecting.hidden_after.Goals as goal

pub returns-then-is_empty-clause-value : goal.returns-then-is_empty-clause-value
returns-then-is_empty-clause-value c =
    let p = is_shown c.args.pred.now false in
    let M = c.args.hidden.rows in
    let N = c.args.view.now.rows in
    let none : c.args.tree.now ≡ [] = sym c.edges.ensures.edges ∙ no_edges c.edges.result.now (sym c.is_empty.ensures ∙ c.if-is_empty.true) in
    λ i. record { columns = c.args.hidden.columns; rows = sym (ap (λ T. those p (spec.revise T M N)) none ∙ ap (those p) (revise_none M N) ∙ all_kept p M c.requires.hidden) i }
