-- The predicate that is written for a formula means it.
use Rattle.std.proofs.Common.{◌≡◌, true, List, [], ◌∷◌, ◌++◌, refl, sym, ap, ◌∙◌, append_assoc, append-nil, not, ◌&&◌}
use Rattle.plain_values.proofs.Common.{and_parts, true≢false}
use Rattle.lens_specs.specs.Common.{Formula, negation, all_of, any_of, Formulas, no_formulas, formulas, Predicate}
use Rattle.grammar_specs.specs.Common.{All, only, joined, Pred, alone, either, part_meaning, all_conjuncts, pred_disjuncts, pred_meaning, predicate_of, condition_meaning, conjuncts, disjuncts, conjunction, disjunction, formulas_of, list_of, part_of, all_parts, more_parts, all_of_formula, any_alls, more_alls, pred_of, joined_parts, predicate_written, condition_written, is_conjunction, is_disjunction, is_written_formula, are_in_all, are_in_any, is_written_predicate}
use Rattle.grammar_specs.specs.Writable.{are_several}

-- ---- pieces

-- a formula of another kind is its one conjunct
pub one_conjunct : (f : Formula) → not (is_conjunction f) ≡ true → conjuncts f ≡ f ∷ []
one_conjunct (all_of fs) h = absurd (true≢false (sym h))
one_conjunct other h = refl

-- a formula of another kind is its one disjunct
pub one_disjunct : (f : Formula) → not (is_disjunction f) ≡ true → disjuncts f ≡ f ∷ []
one_disjunct (any_of fs) h = absurd (true≢false (sym h))
one_disjunct other h = refl

pub formulas_again : (fs : Formulas) → formulas_of (list_of fs) ≡ fs
formulas_again no_formulas = refl
formulas_again (formulas f fs) = ap (formulas f) (formulas_again fs)

pub list_again : (fs : List Formula) → list_of (formulas_of fs) ≡ fs
list_again [] = refl
list_again (f ∷ fs) = ap (λ l. f ∷ l) (list_again fs)

-- two formulas or more are the members of their conjunction
several_all : (fs : Formulas) → are_several fs ≡ true → conjunction (list_of fs) ≡ all_of fs
several_all no_formulas h = absurd (true≢false (sym h))
several_all (formulas f no_formulas) h = absurd (true≢false (sym h))
several_all (formulas f (formulas g fs)) h = ap (λ l. all_of (formulas f (formulas g l))) (formulas_again fs)

several_any : (fs : Formulas) → are_several fs ≡ true → disjunction (list_of fs) ≡ any_of fs
several_any no_formulas h = absurd (true≢false (sym h))
several_any (formulas f no_formulas) h = absurd (true≢false (sym h))
several_any (formulas f (formulas g fs)) h = ap (λ l. any_of (formulas f (formulas g l))) (formulas_again fs)

-- ---- the meaning of what is written

-- a member of a conjunction
one_more : (a : All) (f : Formula) (fs : List Formula) → conjuncts (part_meaning (part_of f)) ≡ f ∷ [] → all_conjuncts (joined a (part_of f)) ++ fs ≡ all_conjuncts a ++ f ∷ fs
one_more a f fs e = ap (λ l. (all_conjuncts a ++ l) ++ fs) e ∙ append_assoc (all_conjuncts a) (f ∷ []) fs

mutual
  part_said : (f : Formula) → is_written_formula f ≡ true → part_meaning (part_of f) ≡ f
  part_said (negation f) h = ap negation (part_said f h)
  part_said (all_of fs) h =
      let parts = and_parts _ _ h in
      ap (λ l. disjunction (disjuncts (conjunction l))) (all_said fs parts.0 parts.1) ∙ ap (λ f. disjunction (disjuncts f)) (several_all fs parts.0)
  part_said (any_of fs) h =
      let parts = and_parts _ _ h in
      ap disjunction (any_said fs parts.0 parts.1) ∙ several_any fs parts.0
  part_said other h = refl

  all_said : (fs : Formulas) → are_several fs ≡ true → are_in_all fs ≡ true → all_conjuncts (all_parts fs) ≡ list_of fs
  all_said no_formulas s h = absurd (true≢false (sym s))
  all_said (formulas f fs) s h =
      let rest = and_parts _ _ h in
      let first = and_parts _ _ rest.0 in
      more_said (only (part_of f)) fs rest.1 ∙ ap (λ l. l ++ list_of fs) (ap conjuncts (part_said f first.1) ∙ one_conjunct f first.0)

  more_said : (a : All) (fs : Formulas) → are_in_all fs ≡ true → all_conjuncts (more_parts a fs) ≡ all_conjuncts a ++ list_of fs
  more_said a no_formulas h = sym (append-nil (all_conjuncts a))
  more_said a (formulas f fs) h =
      let rest = and_parts _ _ h in
      let first = and_parts _ _ rest.0 in
      more_said (joined a (part_of f)) fs rest.1 ∙ one_more a f (list_of fs) (ap conjuncts (part_said f first.1) ∙ one_conjunct f first.0)

  member_said : (f : Formula) → is_written_formula f ≡ true → conjunction (all_conjuncts (all_of_formula f)) ≡ f
  member_said (negation f) h = ap negation (part_said f h)
  member_said (all_of fs) h =
      let parts = and_parts _ _ h in
      ap conjunction (all_said fs parts.0 parts.1) ∙ several_all fs parts.0
  member_said (any_of fs) h =
      let parts = and_parts _ _ h in
      ap (λ f. conjunction (conjuncts f)) (ap disjunction (any_said fs parts.0 parts.1) ∙ several_any fs parts.0)
  member_said other h = refl

  any_said : (fs : Formulas) → are_several fs ≡ true → are_in_any fs ≡ true → pred_disjuncts (any_alls fs) ≡ list_of fs
  any_said no_formulas s h = absurd (true≢false (sym s))
  any_said (formulas f fs) s h =
      let rest = and_parts _ _ h in
      let first = and_parts _ _ rest.0 in
      more_any_said (alone (all_of_formula f)) fs rest.1 ∙ ap (λ l. l ++ list_of fs) (ap disjuncts (member_said f first.1) ∙ one_disjunct f first.0)

  more_any_said : (o : Pred) (fs : Formulas) → are_in_any fs ≡ true → pred_disjuncts (more_alls o fs) ≡ pred_disjuncts o ++ list_of fs
  more_any_said o no_formulas h = sym (append-nil (pred_disjuncts o))
  more_any_said o (formulas f fs) h =
      let rest = and_parts _ _ h in
      let first = and_parts _ _ rest.0 in
      more_any_said (either o (all_of_formula f)) fs rest.1
      ∙ ap (λ l. (pred_disjuncts o ++ l) ++ list_of fs) (ap disjuncts (member_said f first.1) ∙ one_disjunct f first.0)
      ∙ append_assoc (pred_disjuncts o) (f ∷ []) (list_of fs)

-- ---- predicates

pred_said : (f : Formula) → is_written_formula f ≡ true → pred_meaning (pred_of f) ≡ f
pred_said (negation f) h = ap negation (part_said f h)
pred_said (all_of fs) h = part_said (all_of fs) h
pred_said (any_of fs) h = part_said (any_of fs) h
pred_said other h = refl

-- a conjunct
part_conjunct : (f : Formula) → (not (is_conjunction f) && is_written_formula f) ≡ true → conjuncts (part_meaning (part_of f)) ≡ f ∷ []
part_conjunct f h =
    let both = and_parts _ _ h in
    ap conjuncts (part_said f both.1) ∙ one_conjunct f both.0

joined_said : (a : All) (fs : Predicate) → is_written_predicate fs ≡ true → all_conjuncts (joined_parts a fs) ≡ all_conjuncts a ++ fs
joined_said a [] h = sym (append-nil (all_conjuncts a))
joined_said a (f ∷ fs) h =
    let both = and_parts _ _ h in
    joined_said (joined a (part_of f)) fs both.1 ∙ one_more a f fs (part_conjunct f both.0)

-- one conjunct or more
pub some_said : (f : Formula) (fs : Predicate) → is_written_predicate (f ∷ fs) ≡ true → predicate_of (predicate_written (f ∷ fs)) ≡ f ∷ fs
some_said f [] h =
    let one = (and_parts _ _ h).0 in
    let both = and_parts _ _ one in
    ap conjuncts (pred_said f both.1) ∙ one_conjunct f both.0
some_said f (g ∷ fs) h =
    let both = and_parts _ _ h in
    ap (λ l. conjuncts (disjunction (disjuncts (conjunction l)))) (joined_said (only (part_of f)) (g ∷ fs) both.1 ∙ ap (λ l. l ++ g ∷ fs) (part_conjunct f both.0))
    ∙ ap (λ l. f ∷ g ∷ l) (list_again fs)

-- and the condition of a table
pub condition_said : (P : Predicate) → is_written_predicate P ≡ true → condition_meaning (condition_written P) ≡ P
condition_said [] h = refl
condition_said (f ∷ fs) h = some_said f fs h
