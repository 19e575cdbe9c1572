use Rattle.std.proofs.Common.{◌≡◌, ◌++◌, ◌∙◌, ap}
use Rattle.lens_specs.specs.Common.{names_of}
use Rattle.lens_types.proofs.SteadyConjuncts.{others, unsteady_is}
use Rattle.lens_pred.specs.View.{predicate_view}
use Rattle.lens_types.proofs.steadiness.unsteady.Goals as goal

pub returns : goal.returns
returns c =
    let T = c.args.tree.now in
    let list : c.append_unsteady.new.names.items ≡ names_of (others T c.args.pred.now) =
    c.in_ok-append_unsteady.ensures ∙ ap (λ ns. ns ++ names_of (others T (predicate_view c.conjuncts.result.now))) c.new-names.ensures.items
    ∙ ap (λ P. names_of (others T P)) c.conjuncts.ensures.list in
    c.least_output.ensures ∙ unsteady_is c.args.pred.now T c.append_unsteady.new.names.items c.in_ok-mentioned.mentioned list c.in_ok-mentioned.ensures
