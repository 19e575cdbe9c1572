-- Conjuncts as a list of the code.
use Rattle.std.proofs.Common.{◌≡◌, ◌∙◌, List, [], ◌∷◌, refl, rules}
use Rattle.lens_specs.specs.Predicate as spec
use Rattle.lens_pred.specs.View.{formulas_view, list_view, predicate_view}
use Rattle.lens_pred.specs.declared.formula.Formula.{Formula, the_lemmas}
use Rattle.lens_pred.specs.declared.formula.Formulas.{Formulas, out-Formulas}
use Rattle.request_text.specs.Answers.{conjuncts_view}

list_same : (fs gs : List spec.Formula) → list_view fs ≡ list_view gs → fs ≡ gs
list_same [] [] e = refl
list_same [] (g ∷ gs) e = cc
list_same (f ∷ fs) [] e = cc
list_same (f ∷ fs) (g ∷ gs) e =
    let first : f ≡ g = cc in
    let rest : list_view fs ≡ list_view gs = cc in
    (λ i. first i ∷ list_same fs gs rest i)

seen : (fs : Formulas) → list_view (predicate_view (out-Formulas fs).list.items) ≡ formulas_view fs
seen fs = search (rules, the_lemmas)

-- the conjuncts of a list that is seen so
pub conjuncts_are : (fs : Formulas) (list : List Formula) → formulas_view fs ≡ list_view (predicate_view list) → conjuncts_view fs ≡ predicate_view list
conjuncts_are fs list e = list_same (predicate_view (out-Formulas fs).list.items) (predicate_view list) (seen fs ∙ e)
