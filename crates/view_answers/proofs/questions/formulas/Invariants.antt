use Rattle.std.proofs.Common.{◌≡◌, take}
use Rattle.lens_pred.specs.View.{predicate_view}
use Rattle.view_answers.proofs.questions.formulas.Given as goal

abbrev pub invariant-loop-conjunct : goal.invariant-loop-conjunct
invariant-loop-conjunct l = predicate_view l.copies.items ≡ predicate_view (take l.conjunct-index l.conjuncts)
