-- The predicate that is written for a formula is one, and its tokens can be printed.
use Rattle.std.proofs.Common.{◌≡◌, true, [], ◌∷◌, refl}
use Rattle.plain_values.proofs.Common.{and_parts, and_from}
use Rattle.lens_specs.specs.Common.{Formula, negation, all_of, any_of, Formulas, no_formulas, formulas, Predicate}
use Rattle.grammar_specs.specs.Common.{All, only, joined, Pred, alone, either, part_of, all_parts, more_parts, all_of_formula, any_alls, more_alls, pred_of, joined_parts, predicate_written, is_written_formula, are_in_all, are_in_any, is_written_predicate}
use Rattle.grammar_laws.proofs.PrintTrees.{is_good_part, is_good_all, is_good_pred}

mutual
  part_written : (f : Formula) → is_written_formula f ≡ true → is_good_part (part_of f) ≡ true
  part_written (negation f) h = part_written f h
  part_written (all_of fs) h = all_written fs (and_parts _ _ h).1
  part_written (any_of fs) h = any_written fs (and_parts _ _ h).1
  part_written other h = h

  all_written : (fs : Formulas) → are_in_all fs ≡ true → is_good_all (all_parts fs) ≡ true
  all_written no_formulas h = refl
  all_written (formulas f fs) h = let rest = and_parts _ _ h in more_written (only (part_of f)) fs (part_written f (and_parts _ _ rest.0).1) rest.1

  more_written : (a : All) (fs : Formulas) → is_good_all a ≡ true → are_in_all fs ≡ true → is_good_all (more_parts a fs) ≡ true
  more_written a no_formulas g h = g
  more_written a (formulas f fs) g h = let rest = and_parts _ _ h in more_written (joined a (part_of f)) fs (and_from _ _ g (part_written f (and_parts _ _ rest.0).1)) rest.1

  member_written : (f : Formula) → is_written_formula f ≡ true → is_good_all (all_of_formula f) ≡ true
  member_written (negation f) h = part_written f h
  member_written (all_of fs) h = all_written fs (and_parts _ _ h).1
  member_written (any_of fs) h = any_written fs (and_parts _ _ h).1
  member_written other h = h

  any_written : (fs : Formulas) → are_in_any fs ≡ true → is_good_pred (any_alls fs) ≡ true
  any_written no_formulas h = refl
  any_written (formulas f fs) h = let rest = and_parts _ _ h in more_any_written (alone (all_of_formula f)) fs (member_written f (and_parts _ _ rest.0).1) rest.1

  more_any_written : (o : Pred) (fs : Formulas) → is_good_pred o ≡ true → are_in_any fs ≡ true → is_good_pred (more_alls o fs) ≡ true
  more_any_written o no_formulas g h = g
  more_any_written o (formulas f fs) g h = let rest = and_parts _ _ h in more_any_written (either o (all_of_formula f)) fs (and_from _ _ g (member_written f (and_parts _ _ rest.0).1)) rest.1

pred_written : (f : Formula) → is_written_formula f ≡ true → is_good_pred (pred_of f) ≡ true
pred_written (negation f) h = part_written f h
pred_written (all_of fs) h = all_written fs (and_parts _ _ h).1
pred_written (any_of fs) h = any_written fs (and_parts _ _ h).1
pred_written other h = h

joined_written : (a : All) (fs : Predicate) → is_good_all a ≡ true → is_written_predicate fs ≡ true → is_good_all (joined_parts a fs) ≡ true
joined_written a [] g h = g
joined_written a (f ∷ fs) g h = let rest = and_parts _ _ h in joined_written (joined a (part_of f)) fs (and_from _ _ g (part_written f (and_parts _ _ rest.0).1)) rest.1

pub predicate_good : (P : Predicate) → is_written_predicate P ≡ true → is_good_pred (predicate_written P) ≡ true
predicate_good [] h = refl
predicate_good (f ∷ []) h = pred_written f (and_parts _ _ (and_parts _ _ h).0).1
predicate_good (f ∷ g ∷ fs) h = let rest = and_parts _ _ h in joined_written (only (part_of f)) (g ∷ fs) (part_written f (and_parts _ _ rest.0).1) rest.1
