-- A formula with a new name for a column has the form of the old one.
use Rattle.std.proofs.Common.{◌≡◌, Bool, not, ◌&&◌, [], ◌∷◌, refl, ap}
use Rattle.plain_values.proofs.Common.{list_all}
use Rattle.lens_specs.specs.Common.{Name, Formula, truth, falsity, compare, compare_columns, one_of, null_at, negation, all_of, any_of, Formulas, no_formulas, formulas, Predicate, renamed_predicate, renamed_formula, renamed_formulas}
use Rattle.lens_pred.specs.NormalForm.{is_all_of, is_any_of, none_is, has_two, is_normal, are_normal, is_conjunct}
use Rattle.lens_pred.specs.View.{list_view}

pub renamed-list_view : (A B : Name) (P : Predicate) → renamed_formulas A B (list_view P) ≡ list_view (renamed_predicate A B P)
renamed-list_view A B [] = refl
renamed-list_view A B (f ∷ fs) = ap (formulas (renamed_formula A B f)) (renamed-list_view A B fs)

all_of_renamed : (A B : Name) (f : Formula) → is_all_of (renamed_formula A B f) ≡ is_all_of f
all_of_renamed A B truth = refl
all_of_renamed A B falsity = refl
all_of_renamed A B (compare c op v) = refl
all_of_renamed A B (compare_columns c op d) = refl
all_of_renamed A B (one_of c vs) = refl
all_of_renamed A B (null_at c) = refl
all_of_renamed A B (negation f) = refl
all_of_renamed A B (all_of fs) = refl
all_of_renamed A B (any_of fs) = refl

any_of_renamed : (A B : Name) (f : Formula) → is_any_of (renamed_formula A B f) ≡ is_any_of f
any_of_renamed A B truth = refl
any_of_renamed A B falsity = refl
any_of_renamed A B (compare c op v) = refl
any_of_renamed A B (compare_columns c op d) = refl
any_of_renamed A B (one_of c vs) = refl
any_of_renamed A B (null_at c) = refl
any_of_renamed A B (negation f) = refl
any_of_renamed A B (all_of fs) = refl
any_of_renamed A B (any_of fs) = refl

two_renamed : (A B : Name) (fs : Formulas) → has_two (renamed_formulas A B fs) ≡ has_two fs
two_renamed A B no_formulas = refl
two_renamed A B (formulas f no_formulas) = refl
two_renamed A B (formulas f (formulas g fs)) = refl

none_renamed : (p : Formula → Bool) (A B : Name) → ((f : Formula) → p (renamed_formula A B f) ≡ p f) → (fs : Formulas) → none_is p (renamed_formulas A B fs) ≡ none_is p fs
none_renamed p A B h no_formulas = refl
none_renamed p A B h (formulas f fs) = λ i. not (h f i) && none_renamed p A B h fs i

mutual
  normal_renamed : (A B : Name) (f : Formula) → is_normal (renamed_formula A B f) ≡ is_normal f
  normal_renamed A B truth = refl
  normal_renamed A B falsity = refl
  normal_renamed A B (compare c op v) = refl
  normal_renamed A B (compare_columns c op d) = refl
  normal_renamed A B (one_of c vs) = refl
  normal_renamed A B (null_at c) = refl
  normal_renamed A B (negation f) = normal_renamed A B f
  normal_renamed A B (all_of fs) = λ i. two_renamed A B fs i && (none_renamed is_all_of A B (all_of_renamed A B) fs i && are_normal_renamed A B fs i)
  normal_renamed A B (any_of fs) = λ i. two_renamed A B fs i && (none_renamed is_any_of A B (any_of_renamed A B) fs i && are_normal_renamed A B fs i)

  are_normal_renamed : (A B : Name) (fs : Formulas) → are_normal (renamed_formulas A B fs) ≡ are_normal fs
  are_normal_renamed A B no_formulas = refl
  are_normal_renamed A B (formulas f fs) = λ i. normal_renamed A B f i && are_normal_renamed A B fs i

conjunct_renamed : (A B : Name) (f : Formula) → is_conjunct (renamed_formula A B f) ≡ is_conjunct f
conjunct_renamed A B f = λ i. normal_renamed A B f i && not (all_of_renamed A B f i)

pub conjuncts_renamed : (A B : Name) (P : Predicate) → list_all is_conjunct (renamed_predicate A B P) ≡ list_all is_conjunct P
conjuncts_renamed A B [] = refl
conjuncts_renamed A B (f ∷ fs) = λ i. conjunct_renamed A B f i && conjuncts_renamed A B fs i
