-- The members of a formula, where it is joined or stands alone.
use Rattle.std.proofs.Common.{◌≡◌, false, List, [], ◌∷◌, ◌++◌, refl, sym, ap, ◌∙◌, rules}
use Rattle.plain_values.proofs.Common.{map-append}
use Rattle.lens_specs.specs.Common.{Formula, truth, falsity, compare, compare_columns, one_of, null_at, negation, all_of, any_of, Formulas}
use Rattle.grammar_specs.specs.Common.{conjuncts, disjuncts, list_of}
use Rattle.lens_pred.specs.NormalForm.{is_all_of, is_any_of}
use Rattle.lens_pred.specs.View.{formula_view, formulas_view, list_view, predicate_view}
use Rattle.lens_pred.specs.declared.formula.Formula as code
use Rattle.lens_pred.specs.declared.formula.Formula.{And, Or, the_lemmas}
use Rattle.lens_pred.specs.declared.formula.Formulas.{Formulas as Listed}
use Rattle.lens_pred.proofs.Views.{view-And, view-Or}

-- ---- a formula alone

one_conjunct : (f : Formula) → is_all_of f ≡ false → conjuncts f ≡ f ∷ []
one_conjunct truth e = refl
one_conjunct falsity e = refl
one_conjunct (compare c op v) e = refl
one_conjunct (compare_columns c op d) e = refl
one_conjunct (one_of c vs) e = refl
one_conjunct (null_at c) e = refl
one_conjunct (negation f) e = refl
one_conjunct (all_of fs) e = cc
one_conjunct (any_of fs) e = refl

one_disjunct : (f : Formula) → is_any_of f ≡ false → disjuncts f ≡ f ∷ []
one_disjunct truth e = refl
one_disjunct falsity e = refl
one_disjunct (compare c op v) e = refl
one_disjunct (compare_columns c op d) e = refl
one_disjunct (one_of c vs) e = refl
one_disjunct (null_at c) e = refl
one_disjunct (negation f) e = refl
one_disjunct (all_of fs) e = refl
one_disjunct (any_of fs) e = cc

not_all_of : (f : code.Formula) → ((fs : Listed) → f ≡ And fs → ⊥) → is_all_of (formula_view f) ≡ false
not_all_of f other = search (rules, the_lemmas)

not_any_of : (f : code.Formula) → ((fs : Listed) → f ≡ Or fs → ⊥) → is_any_of (formula_view f) ≡ false
not_any_of f other = search (rules, the_lemmas)

pub conjunct_pushed : (items next : List code.Formula) (f : code.Formula) → next ≡ items ++ f ∷ [] → ((fs : Listed) → f ≡ And fs → ⊥) → predicate_view next ≡ predicate_view items ++ conjuncts (formula_view f)
conjunct_pushed items next f e other =
    ap predicate_view e ∙ map-append formula_view items (f ∷ []) ∙ ap (λ x. predicate_view items ++ x) (sym (one_conjunct (formula_view f) (not_all_of f other)))

pub disjunct_pushed : (items next : List code.Formula) (f : code.Formula) → next ≡ items ++ f ∷ [] → ((fs : Listed) → f ≡ Or fs → ⊥) → predicate_view next ≡ predicate_view items ++ disjuncts (formula_view f)
disjunct_pushed items next f e other =
    ap predicate_view e ∙ map-append formula_view items (f ∷ []) ∙ ap (λ x. predicate_view items ++ x) (sym (one_disjunct (formula_view f) (not_any_of f other)))

-- ---- the members of a formula

list_again : (fs : List Formula) → list_of (list_view fs) ≡ fs
list_again [] = refl
list_again (f ∷ fs) = ap (λ l. f ∷ l) (list_again fs)

members_pushed : (items more next : List code.Formula) (fs : Formulas) → next ≡ items ++ more → list_view (predicate_view more) ≡ fs → predicate_view next ≡ predicate_view items ++ list_of fs
members_pushed items more next fs e is =
    ap predicate_view e ∙ map-append formula_view items more ∙ ap (λ x. predicate_view items ++ x) (sym (list_again (predicate_view more)) ∙ ap list_of is)

pub conjuncts_pushed : (items more next : List code.Formula) (fs : Listed) (f : code.Formula) → next ≡ items ++ more → list_view (predicate_view more) ≡ formulas_view fs → f ≡ And fs
    → predicate_view next ≡ predicate_view items ++ conjuncts (formula_view f)
conjuncts_pushed items more next fs f e is whole =
    members_pushed items more next (formulas_view fs) e is ∙ ap (λ g. predicate_view items ++ conjuncts g) (sym (ap formula_view whole ∙ view-And fs))

pub disjuncts_pushed : (items more next : List code.Formula) (fs : Listed) (f : code.Formula) → next ≡ items ++ more → list_view (predicate_view more) ≡ formulas_view fs → f ≡ Or fs
    → predicate_view next ≡ predicate_view items ++ disjuncts (formula_view f)
disjuncts_pushed items more next fs f e is whole =
    members_pushed items more next (formulas_view fs) e is ∙ ap (λ g. predicate_view items ++ disjuncts g) (sym (ap formula_view whole ∙ view-Or fs))
