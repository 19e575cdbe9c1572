-- The place that a binary search finds in a strictly rising list, and a member put there.
use Rattle.plain_values.proofs.Common.{cases_lt, Ordering, Less, Equal, Greater, eq_by_cmp, is_eq, is_lt, on, ordering_reverse, ordering_index, AllByRecursion, AllWithin, HoldsAt, list_any, insert, position_from, IsStrictlySortedBy, IsSearchInRange, IsBinarySearchResult, IsNonDecreasingBy, IsPartitionPoint, result_ok, IsTotalOrder, alike_right, tied_back, IsAntisymmetric, position_from-zero, Less-from_sorted, KeysRise, is_among, keys_of, or_swap}
use Rattle.std.proofs.Common.{inl, inr, ◌≡◌, ℕ, ◌+◌, ◌-◌, ◌<◌, ◌≤◌, List, [], ◌∷◌, length, get_or, ap, sym, subst, ◌∙◌, refl, Bool, true, false, zero, suc, arith, Result, Ok, Err, map-id, ◌||◌, is_ok, Some, None, map, position, cond}
use Rattle.std.specs.FinMap.{find}
use Rattle.std.proofs.lemmas.List.Sorted.{searchable_from_sorted}
use Rattle.plain_values.specs.SortedSet as set
use Rattle.lens_values.proofs.Walks.{any_none, under, apart, below_all}

or-true : (a : Bool) → (a || true) ≡ true
or-true true = refl
or-true false = refl

all_of : {K : Type 0} (P : K → Type 0) (xs : List K) → ((k : ℕ) (d : K) → k < length xs → P (get_or xs k d)) → AllByRecursion P xs
all_of P [] h = tt
all_of P (x ∷ xs) h = (h 0 x (omega arith), all_of P xs (λ k d l. h (suc k) d (omega arith)))

all_insert : {K : Type 0} (P : K → Type 0) (xs : List K) (i : ℕ) (q : K) → P q → AllByRecursion P xs → AllByRecursion P (insert xs i q)
all_insert P [] zero q p a = (p, tt)
all_insert P [] (suc i) q p a = (p, tt)
all_insert P (x ∷ xs) zero q p a = (p, a)
all_insert P (x ∷ xs) (suc i) q p a = (a.0, all_insert P xs i q p a.1)

any_insert : {K : Type 0} (t : K → Bool) (xs : List K) (i : ℕ) (q : K) → list_any t (insert xs i q) ≡ (t q || list_any t xs)
any_insert t [] zero q = refl
any_insert t [] (suc i) q = refl
any_insert t (x ∷ xs) zero q = refl
any_insert t (x ∷ xs) (suc i) q = ap (λ b. t x || b) (any_insert t xs i q) ∙ or_swap (t x) (t q) (list_any t xs)

module _ {K : Type 0} {R : K → K → Ordering} (o : IsTotalOrder R) where
  present : (xs : List K) (q : K) (i : ℕ) → i < length xs → HoldsAt (λ y. R y q ≡ Equal) xs i → is_among R xs q ≡ true
  present [] q i l h = absurd (omega arith)
  present (x ∷ xs) q zero l h = ap (λ r. is_eq r || is_among R xs q) (tied_back o x q (h x))
  present (x ∷ xs) q (suc i) l h = ap (λ b. eq_by_cmp R q x || b) (present xs q i (omega arith) h) ∙ or-true (eq_by_cmp R q x)

  absent : (xs : List K) (q : K) (i : ℕ) → IsPartitionPoint (λ y. R y q ≡ Less) (λ y. R y q ≡ Greater) xs i → is_among R xs q ≡ false
  absent xs q i p = any_none (eq_by_cmp R q) xs (all_of (λ y. eq_by_cmp R q y ≡ false) xs (λ k d l. by_side k d l))
    where
      by_side : (k : ℕ) (d : K) → k < length xs → eq_by_cmp R q (get_or xs k d) ≡ false
      by_side k d l = elim (cases_lt k i) [
        | inl b ↦ apart o (get_or xs k d) q (p.0 k d (omega arith) b)
        | inr a ↦ ap is_eq (under o (get_or xs k d) q (p.1 k d a l))
      ]

  searchable : (xs : List K) (q : K) → IsStrictlySortedBy R xs → IsNonDecreasingBy (λ y. ordering_index (R y q)) xs
  searchable xs q s = searchable_from_sorted o (λ y. y) xs q (λ k d a l.
      ap is_lt (o.antisymm (get_or xs (k + 1) d) (get_or xs k d) ∙ ap ordering_reverse (Less-from_sorted R xs k (k + 1) d s (omega arith) l)))

  -- a binary search finds the member exactly where the list has it
  pub searched : (xs : List K) (q : K) (r : Result ℕ ℕ) → IsStrictlySortedBy R xs → IsSearchInRange r (length xs) → IsBinarySearchResult (λ y. R y q) xs r → is_ok r ≡ is_among R xs q
  searched xs q (Ok i) s l h = sym (present xs q i l h)
  searched xs q (Err i) s l h = sym (absent xs q i (h (searchable xs q s)))

  insert_rises : (xs : List K) (q : K) (i : ℕ) → i ≤ length xs → IsStrictlySortedBy R xs → AllWithin (λ y. R y q ≡ Less) xs 0 i → AllWithin (λ y. R y q ≡ Greater) xs i (length xs) → IsStrictlySortedBy R (insert xs i q)
  unfolding IsStrictlySortedBy
  insert_rises [] q zero l s a b = (tt, tt)
  insert_rises [] q (suc i) l s a b = absurd (omega arith)
  insert_rises (x ∷ xs) q zero l s a b = (below_all o q x xs (under o x q (b 0 x (omega arith) (omega arith))) s.0, s)
  insert_rises (x ∷ xs) q (suc i) l s a b = (
    all_insert (λ y. R x y ≡ Less) xs i q (a 0 x (omega arith) (omega arith)) s.0,
    insert_rises xs q i (omega arith) s.1 (λ k d u v. a (suc k) d (omega arith) (omega arith)) (λ k d u v. b (suc k) d (omega arith) (omega arith)),
  )

  -- put where the search ended, it keeps the order
  pub put_rises : (xs : List K) (q : K) (i : ℕ) → IsStrictlySortedBy R xs → i ≤ length xs → IsBinarySearchResult (λ y. R y q) xs (Err i) → IsStrictlySortedBy R (insert xs i q)
  put_rises xs q i s l h = let p = h (searchable xs q s) in insert_rises xs q i l s p.0 p.1

  pub put_at : IsAntisymmetric R → (xs : List K) (q : K) (i : ℕ) → set.from_list {R = R} (insert xs i q) ≡ set.insert (set.from_list xs) q
  put_at same xs q i = set.same_set o same _ _ (λ k.
      set.contains-from_list o (insert xs i q) k ∙ any_insert (eq_by_cmp R k) xs i q
      ∙ ap (λ b. eq_by_cmp R k q || b) (sym (set.contains-from_list o xs k)) ∙ sym (set.contains-insert o (set.from_list xs) q k))

-- ---- by keys

at_index : {K : Type 0} (P : K → Type 0) (xs : List K) (i : ℕ) (d : K) → i < length xs → AllByRecursion P xs → P (get_or xs i d)
at_index P [] i d l a = absurd (omega arith)
at_index P (x ∷ xs) zero d l a = a.0
at_index P (x ∷ xs) (suc i) d l a = at_index P xs i d (omega arith) a.1

of_keys : {K X : Type 0} (key : X → K) (P : K → Type 0) (xs : List X) → AllByRecursion P (map key xs) → AllByRecursion (λ x. P (key x)) xs
of_keys key P [] a = tt
of_keys key P (x ∷ xs) a = (a.0, of_keys key P xs a.1)

module _ {K X : Type 0} {R : K → K → Ordering} (o : IsTotalOrder R) (key : X → K) where
  -- a member before the one that ties with q does not tie with it
  passed : (x : X) (xs : List X) (q : K) (i : ℕ) → i < length xs → AllByRecursion (λ k. R (key x) k ≡ Less) (map key xs) → HoldsAt (λ y. R (key y) q ≡ Equal) xs i → eq_by_cmp R q (key x) ≡ false
  passed x xs q i l below h =
      let less : R (key x) (key (get_or xs i x)) ≡ Less = at_index (λ y. R (key x) (key y) ≡ Less) xs i x l (of_keys key (λ k. R (key x) k ≡ Less) xs below) in
      apart o (key x) q (sym (alike_right o (key (get_or xs i x)) q (key x) (h x)) ∙ less)

  tied : (x : X) (q : K) → R (key x) q ≡ Equal → eq_by_cmp R q (key x) ≡ true
  tied x q h = ap is_eq (tied_back o (key x) q h)

  position_at : (xs : List X) (q : K) (n i : ℕ) → KeysRise R key xs → i < length xs → HoldsAt (λ y. R (key y) q ≡ Equal) xs i → position_from (eq_by_cmp R q) n (map key xs) ≡ Some (n + i)
  unfolding IsStrictlySortedBy
  position_at [] q n i s l h = absurd (omega arith)
  position_at (x ∷ xs) q n zero s l h = ap (λ b. cond b (Some n) (position_from (eq_by_cmp R q) (n + 1) (map key xs))) (tied x q (h x)) ∙ ap Some (omega arith)
  position_at (x ∷ xs) q n (suc i) s l h =
      ap (λ b. cond b (Some n) (position_from (eq_by_cmp R q) (n + 1) (map key xs))) (passed x xs q i (omega arith) s.0 h)
      ∙ position_at xs q (n + 1) i s.1 (omega arith) h ∙ ap Some (omega arith)

  no_position : (xs : List X) (q : K) (n : ℕ) → AllByRecursion (λ x. eq_by_cmp R q (key x) ≡ false) xs → position_from (eq_by_cmp R q) n (map key xs) ≡ None
  no_position [] q n a = refl
  no_position (x ∷ xs) q n a = ap (λ b. cond b (Some n) (position_from (eq_by_cmp R q) (n + 1) (map key xs))) a.0 ∙ no_position xs q (n + 1) a.1

  none_tie : (xs : List X) (q : K) (i : ℕ) → IsPartitionPoint (λ y. R (key y) q ≡ Less) (λ y. R (key y) q ≡ Greater) xs i → AllByRecursion (λ x. eq_by_cmp R q (key x) ≡ false) xs
  none_tie xs q i p = all_of (λ y. eq_by_cmp R q (key y) ≡ false) xs (λ k d l. by_side k d l)
    where
      by_side : (k : ℕ) (d : X) → k < length xs → eq_by_cmp R q (key (get_or xs k d)) ≡ false
      by_side k d l = elim (cases_lt k i) [
        | inl b ↦ apart o (key (get_or xs k d)) q (p.0 k d (omega arith) b)
        | inr a ↦ ap is_eq (under o (key (get_or xs k d)) q (p.1 k d a l))
      ]

  by_members : (xs : List X) → KeysRise R key xs → IsStrictlySortedBy (on key R) xs
  unfolding IsStrictlySortedBy
  by_members [] s = tt
  by_members (x ∷ xs) s = (of_keys key (λ k. R (key x) k ≡ Less) xs s.0, by_members xs s.1)

  searchable_keys : (xs : List X) (q : K) → KeysRise R key xs → IsNonDecreasingBy (λ y. ordering_index (R (key y) q)) xs
  searchable_keys xs q s = searchable_from_sorted o key xs q (λ k d a l.
      let less : R (key (get_or xs k d)) (key (get_or xs (k + 1) d)) ≡ Less = Less-from_sorted (on key R) xs k (k + 1) d (by_members xs s) (omega arith) l in
      ap is_lt (o.antisymm (key (get_or xs (k + 1) d)) (key (get_or xs k d)) ∙ ap ordering_reverse less))

  -- a binary search by keys finds the place of the key
  pub searched_place : (xs : List X) (q : K) (r : Result ℕ ℕ) → KeysRise R key xs → IsSearchInRange r (length xs) → IsBinarySearchResult (λ y. R (key y) q) xs r → result_ok r ≡ position (eq_by_cmp R q) (map key xs)
  searched_place xs q (Ok i) s l h = sym (position_from-zero (eq_by_cmp R q) (map key xs) ∙ position_at xs q 0 i s l h ∙ ap Some (omega arith))
  searched_place xs q (Err i) s l h = sym (position_from-zero (eq_by_cmp R q) (map key xs) ∙ no_position xs q 0 (none_tie xs q i (h (searchable_keys xs q s))))

-- where a member of a strictly rising list ties with one, that is its place
pub tied_place : {K : Type 0} {R : K → K → Ordering} (o : IsTotalOrder R) (xs : List K) (q : K) (i : ℕ) → IsStrictlySortedBy R xs → i < length xs → HoldsAt (λ y. R y q ≡ Equal) xs i → Some i ≡ position (eq_by_cmp R q) xs
tied_place {R = R} o xs q i s l h =
    ap Some (omega arith)
    ∙ sym (position_at o (λ x. x) xs q 0 i (subst (IsStrictlySortedBy R) (sym (map-id xs)) s) l h)
    ∙ sym (position_from-zero (eq_by_cmp R q) (map (λ x. x) xs)) ∙ ap (position (eq_by_cmp R q)) (map-id xs)

module _ {K V : Type 0} {R : K → K → Ordering} (o : IsTotalOrder R) where
  abbrev first : K × V → K
  first e = e.0

  -- and where it has found the key, what the entries have under it stands there
  pub searched_value : (es : List (K × V)) (q : K) (i : ℕ) (d : K × V) → IsStrictlySortedBy R (keys_of es) → i < length es → HoldsAt (λ e. R e.0 q ≡ Equal) es i → find R q es ≡ Some (get_or es i d).1
  unfolding IsStrictlySortedBy
  searched_value [] q i d s l h = absurd (omega arith)
  searched_value (e ∷ es) q zero d s l h = ap (λ b. cond b (Some e.1) (find R q es)) (tied o (λ e. e.0) e q (h e))
  searched_value (e ∷ es) q (suc i) d s l h = ap (λ b. cond b (Some e.1) (find R q es)) (passed o (λ e. e.0) e es q i (omega arith) s.0 h) ∙ searched_value es q i d s.1 (omega arith) h

  no_value : (es : List (K × V)) (q : K) → AllByRecursion (λ e. eq_by_cmp R q e.0 ≡ false) es → find R q es ≡ None
  no_value [] q a = refl
  no_value (e ∷ es) q a = ap (λ b. cond b (Some e.1) (find R q es)) a.0 ∙ no_value es q a.1

  -- and where not, they have nothing
  pub searched_nothing : (es : List (K × V)) (q : K) (i : ℕ) → IsStrictlySortedBy R (keys_of es) → IsBinarySearchResult (λ e. R e.0 q) es (Err i) → find R q es ≡ None
  searched_nothing es q i s h = no_value es q (none_tie o (λ e. e.0) es q i (h (searchable_keys o (λ e. e.0) es q s)))

-- ---- by what stands around a place

module _ {K : Type 0} {R : K → K → Ordering} (o : IsTotalOrder R) where
  after_place : (xs : List K) (q : K) (i : ℕ) → IsStrictlySortedBy R xs → (i < length xs → HoldsAt (λ y. R y q ≡ Greater) xs i) → AllWithin (λ y. R y q ≡ Greater) xs i (length xs)
  after_place xs q i s h k d a l = elim (cases_lt i k) [
    | inl m ↦
        let first : R q (get_or xs i d) ≡ Less = under o (get_or xs i d) q (h (omega arith) d) in
        o.antisymm (get_or xs k d) q ∙ ap ordering_reverse (o.trans q (get_or xs i d) (get_or xs k d) first (Less-from_sorted R xs i k d s m l))
    | inr m ↦ let same : k ≡ i = omega arith in subst (λ j. R (get_or xs j d) q ≡ Greater) (sym same) (h (omega arith) d)
  ]

  before_place : (xs : List K) (q : K) (i : ℕ) → IsStrictlySortedBy R xs → (0 < i → (i ≤ length xs) × HoldsAt (λ y. R y q ≡ Less) xs (i - 1)) → AllWithin (λ y. R y q ≡ Less) xs 0 i
  before_place xs q i s h k d a l =
      let t = h (omega arith) in
      elim (cases_lt k (i - 1)) [
        | inl m ↦ o.trans (get_or xs k d) (get_or xs (i - 1) d) q (Less-from_sorted R xs k (i - 1) d s m (omega (arith, t.0))) (t.1 d)
        | inr m ↦ let same : k ≡ i - 1 = omega arith in subst (λ j. R (get_or xs j d) q ≡ Less) (sym same) (t.1 d)
      ]

  -- what falls between the members before and at a place is nowhere in the list
  pub between : (xs : List K) (q : K) (i : ℕ) → IsStrictlySortedBy R xs → (0 < i → (i ≤ length xs) × HoldsAt (λ y. R y q ≡ Less) xs (i - 1)) → (i < length xs → HoldsAt (λ y. R y q ≡ Greater) xs i)
      → None ≡ position (eq_by_cmp R q) xs
  between xs q i s before after =
      sym (ap (position (eq_by_cmp R q)) (sym (map-id xs)) ∙ position_from-zero (eq_by_cmp R q) (map (λ y. y) xs)
      ∙ no_position o (λ y. y) xs q 0 (none_tie o (λ y. y) xs q i (before_place xs q i s before, after_place xs q i s after)))
