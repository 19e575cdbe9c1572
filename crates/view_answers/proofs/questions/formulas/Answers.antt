use Rattle.std.proofs.Common.{◌∙◌, ap}
use Rattle.lens_pred.specs.View.{predicate_view}
use Rattle.plain_values.proofs.Common.{take_all}
use Rattle.view_answers.proofs.Formulas.{conjuncts_are}
use Rattle.view_answers.proofs.questions.formulas.Goals as goal

pub returns : goal.returns
returns c =
    conjuncts_are c.new.result c.loop-conjunct.copies.items c.new.ensures ∙ c.loop-conjunct.invariant
    ∙ ap predicate_view (take_all c.loop-conjunct.conjunct-index c.args.conjuncts.now c.loop-conjunct-test.false)
