-- Lists put in order, and lists that rise strictly, from what a look at all neighbours answers.
use Rattle.std.proofs.Common.{◌≡◌, ◌+◌, get_or, Bool, true, false, List, [], ◌∷◌, ap, sym, ◌∙◌, refl, arith, IsTrue}
use Rattle.plain_values.proofs.Common.{Ordering, Less, Equal, Greater, IsTotalOrder, list_any, IsPermutation, IsStrictlySortedBy, eq_by_cmp, is_le, is_lt, ordering_reverse, true≢false, list_any-IsPermutation, Less-from_sorted, nothing_rises}
use Rattle.std.specs.List.{IsAllAdjacentAnswer}
use Rattle.std.specs.List.Sorted.{IsSorted}
use Rattle.std.specs.Ordering.{as_partial_cmp, partial_le}
use Rattle.std.proofs.lemmas.Map.Keys.{sorted_from_all_adjacent}

less_is : (r : Ordering) → true ≡ is_lt r → r ≡ Less
less_is Less e = refl
less_is Equal e = cc
less_is Greater e = cc

reversed : (r : Ordering) → is_le r ≡ true → is_lt (ordering_reverse r) ≡ false
reversed Less e = refl
reversed Equal e = refl
reversed Greater e = cc

turned : (r : Ordering) → is_le r ≡ false → is_lt (ordering_reverse r) ≡ true
turned Less e = cc
turned Equal e = cc
turned Greater e = refl

module _ {K : Type 0} {R : K → K → Ordering} (o : IsTotalOrder R) where
  rises : (xs : List K) → IsAllAdjacentAnswer (λ x y b. b ≡ is_lt (R x y)) xs true → IsStrictlySortedBy R xs
  rises [] h = nothing_rises o
  rises (x ∷ xs) h = sorted_from_all_adjacent o (x ∷ xs) x (λ k l. less_is _ (h k x l))

  falls : (xs : List K) → IsAllAdjacentAnswer (λ x y b. b ≡ is_lt (R x y)) xs false → IsStrictlySortedBy R xs → IsTrue false
  falls [] h s = absurd (omega (arith, h.1))
  falls (x ∷ xs) h s = absurd (true≢false (sym (h.2 x ∙ ap is_lt (Less-from_sorted R (x ∷ xs) h.0 (h.0 + 1) x s (omega arith) h.1))))

  -- all neighbours rise exactly where the list does
  pub rise_is : (xs : List K) (r : Bool) → IsAllAdjacentAnswer (λ x y b. b ≡ is_lt (R x y)) xs r
      → (IsTrue r → IsStrictlySortedBy R xs) × (IsStrictlySortedBy R xs → IsTrue r)
  rise_is xs true h = (λ _. rises xs h, λ _. refl)
  rise_is xs false h = (λ no. absurd (true≢false (sym no)), falls xs h)

  not_below : (x y : K) (r : Ordering) → r ≡ R x y → is_le r ≡ true → is_lt (R y x) ≡ false
  not_below x y r e l = ap is_lt (o.antisymm y x ∙ ap ordering_reverse (sym e)) ∙ reversed r l

  below : (x y : K) (r : Ordering) → r ≡ R x y → is_le r ≡ false → is_lt (R y x) ≡ true
  below x y r e l = ap is_lt (o.antisymm y x ∙ ap ordering_reverse (sym e)) ∙ turned r l

  -- no neighbour is below the one before it exactly where the list is sorted
  pub ascend_is : (xs : List K) (r : Bool) → IsAllAdjacentAnswer (λ x y b. partial_le (as_partial_cmp R) x y ≡ b) xs r
      → (IsTrue r → IsSorted R xs) × (IsSorted R xs → IsTrue r)
  ascend_is xs true h = (λ _ k d u v. not_below (get_or xs k d) (get_or xs (k + 1) d) _ refl (h k d v), λ _. refl)
  ascend_is [] false h = (λ no. absurd (true≢false (sym no)), λ s. absurd (omega (arith, h.1)))
  ascend_is (x ∷ xs) false h =
      (λ no. absurd (true≢false (sym no)), λ s. absurd (true≢false (sym (below (get_or (x ∷ xs) h.0 x) (get_or (x ∷ xs) (h.0 + 1) x) _ refl (h.2 x)) ∙ s h.0 x (omega arith) h.1)))

  -- rows that were only moved have the same members
  pub moved_alike : (before lent moved after : List K) → lent ≡ before → IsPermutation lent moved → after ≡ moved
      → (x : K) → list_any (eq_by_cmp R x) after ≡ list_any (eq_by_cmp R x) before
  moved_alike before lent moved after is_lent permuted is_after x =
      ap (list_any (eq_by_cmp R x)) is_after ∙ sym (list_any-IsPermutation (eq_by_cmp R x) lent moved permuted) ∙ ap (list_any (eq_by_cmp R x)) is_lent
