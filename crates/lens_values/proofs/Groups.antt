-- The members of a list that tie with a key, where the list ascends by keys.
use Rattle.std.proofs.Common.{inl, inr, ◌≡◌, ℕ, ◌+◌, ◌<◌, ◌≤◌, List, [], ◌∷◌, length, take, drop, length-drop, get_or, ap, sym, subst, ◌∙◌, refl, Bool, true, false, cond, zero, suc, arith, filter}
use Rattle.plain_values.proofs.Common.{Ordering, Less, Equal, Greater, AllWithin, IsPartitionedBy, IsPartitionPoint, is_eq, is_gt, is_le, is_lt, IsTotalOrder, upto, cases_lt, true≢false, get_or_default, length-take-le, is_less}
use Rattle.std.proofs.lemmas.List.{get_or-drop, get_or-take}

module _ {X : Type 0} (test : X → Bool) where
  from_next : (P : X → Type 0) (x : X) (xs : List X) (low high : ℕ) → AllWithin P (x ∷ xs) (suc low) (suc high) → AllWithin P xs low high
  from_next P x xs low high a k d l h = a (suc k) d (omega arith) (omega arith)

  filter_drop : (xs : List X) (i : ℕ) → i ≤ length xs → AllWithin (λ x. test x ≡ false) xs 0 i → filter test xs ≡ filter test (drop i xs)
  filter_drop xs zero l a = refl
  filter_drop [] (suc i) l a = refl
  filter_drop (x ∷ xs) (suc i) l a =
      ap (λ b. cond b (x ∷ filter test xs) (filter test xs)) (a 0 x (omega arith) (omega arith))
      ∙ filter_drop xs i (omega arith) (λ k d u v. a (suc k) d (omega arith) (omega arith))

  filter_take : (xs : List X) (i : ℕ) → AllWithin (λ x. test x ≡ false) xs i (length xs) → filter test xs ≡ filter test (take i xs)
  filter_take [] zero a = refl
  filter_take [] (suc i) a = refl
  filter_take (x ∷ xs) zero a =
      ap (λ b. cond b (x ∷ filter test xs) (filter test xs)) (a 0 x (omega arith) (omega arith))
      ∙ filter_take xs zero (λ k d u v. a (suc k) d (omega arith) (omega arith))
  filter_take (x ∷ xs) (suc i) a = ap (λ l. cond (test x) (x ∷ l) l) (filter_take xs i (λ k d u v. a (suc k) d (omega arith) (omega arith)))

  filter_all : (xs : List X) → AllWithin (λ x. test x ≡ true) xs 0 (length xs) → filter test xs ≡ xs
  filter_all [] a = refl
  filter_all (x ∷ xs) a =
      ap (λ b. cond b (x ∷ filter test xs) (filter test xs)) (a 0 x (omega arith) (omega arith))
      ∙ ap (λ l. x ∷ l) (filter_all xs (λ k d u v. a (suc k) d (omega arith) (omega arith)))

not_tied : (r : Ordering) → is_lt r ≡ true → is_eq r ≡ false
not_tied Less e = refl
not_tied Equal e = cc
not_tied Greater e = cc

past : (r : Ordering) → is_le r ≡ false → is_eq r ≡ false
past Less e = cc
past Equal e = cc
past Greater e = refl

between : (r : Ordering) → is_lt r ≡ false → is_le r ≡ true → is_eq r ≡ true
between Less e f = cc
between Equal e f = refl
between Greater e f = cc

le_gt : (r : Ordering) → is_le r ≡ true → is_gt r ≡ false
le_gt Less e = refl
le_gt Equal e = refl
le_gt Greater e = cc

gt_le : (r : Ordering) → is_gt r ≡ false → is_le r ≡ true
gt_le Less e = refl
gt_le Equal e = refl
gt_le Greater e = cc

module _ {K X : Type 0} {R : K → K → Ordering} (o : IsTotalOrder R) (key : X → K) where
  -- no member's key is after that of a later one
  abbrev pub Ascend : List X → Type 0
  Ascend xs = (i j : ℕ) (d : X) → i ≤ j → j < length xs → is_gt (R (key (get_or xs i d)) (key (get_or xs j d))) ≡ false

  lower : (x y k : K) (r : Ordering) → R x y ≡ r → is_gt r ≡ false → R y k ≡ Less → R x k ≡ Less
  lower x y k Less e g l = o.trans x y k e l
  lower x y k Equal e g l = o.congr x y k e ∙ l
  lower x y k Greater e g l = cc

  pub lower_first : (xs : List X) (k : K) → Ascend xs → IsPartitionedBy (λ x. is_lt (R (key x) k)) xs
  lower_first xs k up i j d l h t = ap is_lt (lower (key (get_or xs i d)) (key (get_or xs j d)) k _ refl (up i j d l h) (is_less (R (key (get_or xs j d)) k) t))

  pub no_higher_first : (xs : List X) (k : K) → Ascend xs → IsPartitionedBy (λ x. is_le (R (key x) k)) xs
  no_higher_first xs k up i j d l h t = gt_le (R (key (get_or xs i d)) k) (upto o (key (get_or xs i d)) (key (get_or xs j d)) k (up i j d l h) (le_gt (R (key (get_or xs j d)) k) t))

  pub rest_ascends : (xs : List X) (s : ℕ) → s ≤ length xs → Ascend xs → Ascend (drop s xs)
  rest_ascends xs s l up i j d u v =
      let there : s + j < length xs = omega (arith, length-drop s xs) in
      (λ z. is_gt (R (key (get_or-drop s xs i d z)) (key (get_or-drop s xs j d z)))) ∙ up (s + i) (s + j) d (omega arith) there

  -- the members that tie with k stand from s on, c of them
  pub group_is : (xs : List X) (k : K) (s c : ℕ) → s ≤ length xs → c ≤ length (drop s xs)
      → IsPartitionPoint (λ x. is_lt (R (key x) k) ≡ true) (λ x. is_lt (R (key x) k) ≡ false) xs s
      → IsPartitionPoint (λ x. is_le (R (key x) k) ≡ true) (λ x. is_le (R (key x) k) ≡ false) (drop s xs) c
      → take c (drop s xs) ≡ filter (λ x. is_eq (R (key x) k)) xs
  group_is xs k s c l m p q =
      let tied : X → Bool = λ x. is_eq (R (key x) k) in
      sym (filter_drop tied xs s l (λ i d u v. not_tied (R (key (get_or xs i d)) k) (p.0 i d u v))
      ∙ filter_take tied (drop s xs) c (λ i d u v. past (R (key (get_or (drop s xs) i d)) k) (q.1 i d u v))
      ∙ filter_all tied (take c (drop s xs)) (λ i d u v.
      let below : i < c = omega (arith, length-take-le c (drop s xs) m) in
      let here : get_or (take c (drop s xs)) i d ≡ get_or (drop s xs) i d = get_or-take c (drop s xs) i d below in
      let place : get_or (drop s xs) i d ≡ get_or xs (s + i) d = get_or-drop s xs i d in
      ap tied here ∙ between (R (key (get_or (drop s xs) i d)) k)
      (ap (λ x. is_lt (R (key x) k)) place ∙ p.1 (s + i) d (omega arith) (omega (arith, length-drop s xs)))
      (q.0 i d (omega arith) below)))

gt_not_le : (r : Ordering) → is_gt r ≡ true → is_le r ≡ false
gt_not_le Less e = cc
gt_not_le Equal e = cc
gt_not_le Greater e = refl

module _ {K X : Type 0} (R : K → K → Ordering) (key : X → K) (k : K) (xs : List X) (i : ℕ) (x : X) (l : i < length xs) (is : x ≡ get_or xs i x) where
  here_is : (d : X) → R (key (get_or xs i d)) k ≡ R (key x) k
  here_is d = ap (λ y. R (key y) k) (get_or_default xs i d x l ∙ sym is)

  -- a walk goes past a member that is not above the key
  pub one_more : AllWithin (λ y. is_le (R (key y) k) ≡ true) xs 0 i → is_gt (R (key x) k) ≡ false → AllWithin (λ y. is_le (R (key y) k) ≡ true) xs 0 (i + 1)
  one_more a g j d u v = elim (cases_lt j i) [
    | inl m ↦ a j d u m
    | inr m ↦
        let same : j ≡ i = omega arith in
        subst (λ n. is_le (R (key (get_or xs n d)) k) ≡ true) (sym same) (gt_le (R (key (get_or xs i d)) k) (ap is_gt (here_is d) ∙ g))
  ]

  -- and stops at the first above it, behind which all are
  pub first_above : IsPartitionedBy (λ y. is_le (R (key y) k)) xs → AllWithin (λ y. is_le (R (key y) k) ≡ true) xs 0 i → is_gt (R (key x) k) ≡ true
      → IsPartitionPoint (λ y. is_le (R (key y) k) ≡ true) (λ y. is_le (R (key y) k) ≡ false) xs i
  first_above parted a g = (
    a,
    λ j d u v.
        let above : is_le (R (key (get_or xs i d)) k) ≡ false = gt_not_le (R (key (get_or xs i d)) k) (ap is_gt (here_is d) ∙ g) in
        by (is_le (R (key (get_or xs j d)) k)) refl above (parted i j d u v),
  )
    where
      by : {i' j' : Bool} (b : Bool) → j' ≡ b → i' ≡ false → (j' ≡ true → i' ≡ true) → j' ≡ false
      by true e f p = absurd (true≢false (sym (p e) ∙ f))
      by false e f p = e
