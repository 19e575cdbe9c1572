use Rattle.std.proofs.Common.{◌≡◌, None, ap, sym, ◌∙◌, not, position}
use Rattle.lens_pred.specs.NormalForm.{first_not_normal, is_conjunct}
use Rattle.lens_pred.specs.View.{formula_view, predicate_view}
use Rattle.lens_pred.proofs.Conjuncts.{all_in, position-map}
use Rattle.lens_pred.proofs.pred.Pred.new.Goals as goal

pub returns-in-Some-clause-err : goal.returns-in-Some-clause-err
returns-in-Some-clause-err c =
    position-map (λ f. not (is_conjunct f)) formula_view c.args.conjuncts.items
    ∙ ap (position (λ f. not (is_conjunct (formula_view f)))) (sym c.deref.ensures.value)
    ∙ sym c.first_fault.ensures ∙ c.in-Some.is

pub returns-in-None-clause-normal : goal.returns-in-None-clause-normal
returns-in-None-clause-normal c =
    position-map (λ f. not (is_conjunct f)) formula_view c.args.conjuncts.items
    ∙ ap (position (λ f. not (is_conjunct (formula_view f)))) (sym c.deref.ensures.value)
    ∙ sym c.first_fault.ensures ∙ c.in-None.is

pub invariant_of-result : goal.invariant_of-result
invariant_of-result c =
    let normal : first_not_normal (predicate_view c.args.conjuncts.items) ≡ None =
    position-map (λ f. not (is_conjunct f)) formula_view c.args.conjuncts.items
    ∙ ap (position (λ f. not (is_conjunct (formula_view f)))) (sym c.deref.ensures.value)
    ∙ sym c.first_fault.ensures ∙ c.in-None.is in
    all_in is_conjunct (predicate_view c.args.conjuncts.items) normal
