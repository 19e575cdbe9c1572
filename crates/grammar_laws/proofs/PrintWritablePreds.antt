-- The formula of a predicate can be written.
use Rattle.std.proofs.Common.{◌≡◌, Bool, true, false, List, [], ◌∷◌, ◌++◌, refl, sym, ap, ◌∙◌, ◌&&◌, not, Option, Some, None}
use Rattle.plain_values.proofs.Common.{list_all, and_parts, and_from, false≢true, list_all-append}
use Rattle.lens_specs.specs.Common.{Formula, truth, falsity, all_of, any_of, Formulas, no_formulas, formulas}
use Rattle.grammar_specs.specs.Common.{Part, literally, negated, grouped, All, only, joined, Pred, alone, either, where_tokens, is_some_list, is_condition, part_meaning, all_conjuncts, pred_disjuncts, pred_meaning, predicate_of, condition_meaning, conjuncts, disjuncts, conjunction, disjunction, formulas_of, list_of, is_conjunction, is_disjunction, is_written_formula, are_in_all, are_in_any, is_written_predicate}
use Rattle.grammar_laws.proofs.PrintTokens.{are_printable}
use Rattle.grammar_laws.proofs.PrintTrees.{is_good_part, is_good_all, is_good_pred, pred_good}
use Rattle.grammar_laws.proofs.PrintPreds.{list_again}

-- ---- members

-- it can stand in an "and"
abbrev is_conjunct : Formula → Bool
is_conjunct f = not (is_conjunction f) && is_written_formula f

-- it can stand in an "or"
abbrev is_disjunct : Formula → Bool
is_disjunct f = not (is_disjunction f) && is_written_formula f

in_all_again : (fs : Formulas) → are_in_all fs ≡ list_all is_conjunct (list_of fs)
in_all_again no_formulas = refl
in_all_again (formulas f fs) = ap (λ b. is_conjunct f && b) (in_all_again fs)

in_any_again : (fs : Formulas) → are_in_any fs ≡ list_all is_disjunct (list_of fs)
in_any_again no_formulas = refl
in_any_again (formulas f fs) = ap (λ b. is_disjunct f && b) (in_any_again fs)

-- the conjuncts of a formula
conjuncts_writable : (f : Formula) → is_written_formula f ≡ true → is_written_predicate (conjuncts f) ≡ true
conjuncts_writable truth h = refl
conjuncts_writable falsity h = refl
conjuncts_writable (all_of fs) h = sym (in_all_again fs) ∙ (and_parts _ _ h).1
conjuncts_writable other h = and_from _ true h refl

disjuncts_writable : (f : Formula) → is_written_formula f ≡ true → list_all is_disjunct (disjuncts f) ≡ true
disjuncts_writable truth h = refl
disjuncts_writable falsity h = refl
disjuncts_writable (any_of fs) h = sym (in_any_again fs) ∙ (and_parts _ _ h).1
disjuncts_writable other h = and_from _ true h refl

-- one formula, or a conjunction of several
conjunction_writable : (fs : List Formula) → list_all is_conjunct fs ≡ true → is_written_formula (conjunction fs) ≡ true
conjunction_writable [] h = refl
conjunction_writable (f ∷ []) h = (and_parts _ _ (and_parts _ _ h).0).1
conjunction_writable (f ∷ g ∷ fs) h = in_all_again (formulas_of (f ∷ g ∷ fs)) ∙ ap (list_all is_conjunct) (list_again (f ∷ g ∷ fs)) ∙ h

disjunction_writable : (fs : List Formula) → list_all is_disjunct fs ≡ true → is_written_formula (disjunction fs) ≡ true
disjunction_writable [] h = refl
disjunction_writable (f ∷ []) h = (and_parts _ _ (and_parts _ _ h).0).1
disjunction_writable (f ∷ g ∷ fs) h = in_any_again (formulas_of (f ∷ g ∷ fs)) ∙ ap (list_all is_disjunct) (list_again (f ∷ g ∷ fs)) ∙ h

both_writable : (p : Formula → Bool) (fs gs : List Formula) → list_all p fs ≡ true → list_all p gs ≡ true → list_all p (fs ++ gs) ≡ true
both_writable p fs gs h k = list_all-append p fs gs ∙ and_from _ _ h k

-- ---- what is written

mutual
  part_writable : (p : Part) → is_good_part p ≡ true → is_written_formula (part_meaning p) ≡ true
  part_writable (literally true) h = refl
  part_writable (literally false) h = refl
  part_writable (negated p) h = part_writable p h
  part_writable (grouped o) h = disjunction_writable (pred_disjuncts o) (pred_writable o h)
  part_writable other h = h

  all_writable : (a : All) → is_good_all a ≡ true → is_written_predicate (all_conjuncts a) ≡ true
  all_writable (only p) h = conjuncts_writable (part_meaning p) (part_writable p h)
  all_writable (joined a p) h =
      let both = and_parts _ _ h in
      both_writable is_conjunct (all_conjuncts a) (conjuncts (part_meaning p)) (all_writable a both.0) (conjuncts_writable (part_meaning p) (part_writable p both.1))

  pred_writable : (o : Pred) → is_good_pred o ≡ true → list_all is_disjunct (pred_disjuncts o) ≡ true
  pred_writable (alone a) h = disjuncts_writable (conjunction (all_conjuncts a)) (conjunction_writable (all_conjuncts a) (all_writable a h))
  pred_writable (either o a) h =
      let both = and_parts _ _ h in
      both_writable is_disjunct (pred_disjuncts o) (disjuncts (conjunction (all_conjuncts a))) (pred_writable o both.0)
      (disjuncts_writable (conjunction (all_conjuncts a)) (conjunction_writable (all_conjuncts a) (all_writable a both.1)))

-- ---- predicates

some_conjuncts : (f : Formula) → is_written_formula f ≡ true → is_some_list (conjuncts f) ≡ true
some_conjuncts (all_of no_formulas) h = absurd (false≢true h)
some_conjuncts (all_of (formulas f fs)) h = refl
some_conjuncts other h = refl

-- a predicate has a conjunct, and can be written
pub predicate_writable : (o : Pred) → is_good_pred o ≡ true → (is_some_list (predicate_of o) && is_written_predicate (predicate_of o)) ≡ true
predicate_writable o h =
    let f = disjunction_writable (pred_disjuncts o) (pred_writable o h) in
    and_from _ _ (some_conjuncts (pred_meaning o) f) (conjuncts_writable (pred_meaning o) f)

pub condition_writable : (p : Option Pred) → is_condition p ≡ true → are_printable (where_tokens p) ≡ true → is_written_predicate (condition_meaning p) ≡ true
condition_writable None h k = refl
condition_writable (Some o) h k = (and_parts _ _ (predicate_writable o (sym (pred_good o) ∙ and_from _ _ h k))).1
