-- The normal form of formulas and of predicates.
use Rattle.std.specs.Prelude.{ℕ, Bool, true, false, not, ◌&&◌, List, [], ◌∷◌, Option, position}
use Rattle.lens_specs.specs.Predicate.{Formula, truth, falsity, compare, compare_columns, one_of, null_at, negation, all_of, any_of, Formulas, no_formulas, formulas, Predicate}

-- whether it is a conjunction
abbrev pub is_all_of : Formula → Bool
is_all_of truth = false
is_all_of falsity = false
is_all_of (compare c op v) = false
is_all_of (compare_columns c op d) = false
is_all_of (one_of c vs) = false
is_all_of (null_at c) = false
is_all_of (negation f) = false
is_all_of (all_of fs) = true
is_all_of (any_of fs) = false

-- whether it is a disjunction
abbrev pub is_any_of : Formula → Bool
is_any_of truth = false
is_any_of falsity = false
is_any_of (compare c op v) = false
is_any_of (compare_columns c op d) = false
is_any_of (one_of c vs) = false
is_any_of (null_at c) = false
is_any_of (negation f) = false
is_any_of (all_of fs) = false
is_any_of (any_of fs) = true

-- whether no formula of the list passes
abbrev pub none_is : (Formula → Bool) → Formulas → Bool
none_is p no_formulas = true
none_is p (formulas f fs) = not (p f) && none_is p fs

-- whether there are two formulas or more
abbrev pub has_two : Formulas → Bool
has_two no_formulas = false
has_two (formulas f no_formulas) = false
has_two (formulas f (formulas g fs)) = true

-- whether there is a value
abbrev pub has_one : {A : Type 0} → List A → Bool
has_one [] = false
has_one (x ∷ xs) = true

-- a conjunction or a disjunction has two members or more and none of its own kind, and a list of values is not empty
abbrev mutual
  pub is_normal : Formula → Bool
  is_normal truth = true
  is_normal falsity = true
  is_normal (compare c op v) = true
  is_normal (compare_columns c op d) = true
  is_normal (one_of c vs) = has_one vs
  is_normal (null_at c) = true
  is_normal (negation f) = is_normal f
  is_normal (all_of fs) = has_two fs && (none_is is_all_of fs && are_normal fs)
  is_normal (any_of fs) = has_two fs && (none_is is_any_of fs && are_normal fs)

  pub are_normal : Formulas → Bool
  are_normal no_formulas = true
  are_normal (formulas f fs) = is_normal f && are_normal fs

-- whether it may be a conjunct: in normal form, and no conjunction
abbrev pub is_conjunct : Formula → Bool
is_conjunct f = is_normal f && not (is_all_of f)

-- the place of the first conjunct that may not be one
abbrev pub first_not_normal : Predicate → Option ℕ
first_not_normal P = position (λ f. not (is_conjunct f)) P
