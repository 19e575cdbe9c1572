-- Whether the members of one strictly rising list are all in another, by one walk along that.
use Rattle.std.proofs.Common.{◌≡◌, ℕ, ◌<◌, ◌≤◌, ◌+◌, List, [], ◌∷◌, length, drop, get_or, ap, sym, ◌∙◌, refl, Bool, true, false, cond, zero, suc, arith, ◌&&◌, ◌||◌, ◌==◌}
use Rattle.plain_values.proofs.Common.{Ordering, Less, Equal, Greater, eq_by_cmp, is_eq, AllByRecursion, list_all, IsStrictlySortedBy, IsTotalOrder, tied_back, eqb-true, eq-eqb, true≢false, drop_more, length-drop, is_among}
use Rattle.lens_values.proofs.Walks.{any_none, apart, under}

module _ {K : Type 0} (R : K → K → Ordering) where
  -- the walk: a member that is met is passed, and what is walked along is passed anyway
  abbrev pub meets_all : List K → List K → Bool
  meets_all [] ys = true
  meets_all (x ∷ xs) [] = false
  meets_all (x ∷ xs) (y ∷ ys) = cond (eq_by_cmp R x y) (meets_all xs ys) (meets_all (x ∷ xs) ys)

all_alike : {K : Type 0} (p q : K → Bool) (xs : List K) → AllByRecursion (λ x. p x ≡ q x) xs → list_all p xs ≡ list_all q xs
all_alike p q [] a = refl
all_alike p q (x ∷ xs) a = λ i. a.0 i && all_alike p q xs a.1 i

All-map : {K : Type 0} {P Q : K → Type 0} → ((x : K) → P x → Q x) → (xs : List K) → AllByRecursion P xs → AllByRecursion Q xs
All-map f [] a = tt
All-map f (x ∷ xs) a = (f x a.0, All-map f xs a.1)

module _ {K : Type 0} {R : K → K → Ordering} (o : IsTotalOrder R) where
  abbrev Below : K → List K → Type 0
  Below x ys = AllByRecursion (λ y. R x y ≡ Less) ys

  -- a lesser one does not count for members above it
  passed : (y : K) (ys xs : List K) → Below y xs → list_all (is_among R (y ∷ ys)) xs ≡ list_all (is_among R ys) xs
  passed y ys xs b = all_alike (is_among R (y ∷ ys)) (is_among R ys) xs
      (All-map {P = λ x. R y x ≡ Less} {Q = λ x. is_among R (y ∷ ys) x ≡ is_among R ys x} (λ x l. ap (λ t. t || is_among R ys x) (apart o y x l)) xs b)

  -- one below all is not among them
  never : (x : K) (ys : List K) → Below x ys → is_among R ys x ≡ false
  never x ys b = any_none (eq_by_cmp R x) ys (All-map {P = λ y. R x y ≡ Less} {Q = λ y. eq_by_cmp R x y ≡ false} (λ y l. ap is_eq l) ys b)

  level_below : (x y : K) (xs : List K) → R x y ≡ Equal → Below x xs → Below y xs
  level_below x y xs e b = All-map {P = λ z. R x z ≡ Less} {Q = λ z. R y z ≡ Less} (λ z l. o.congr y x z (tied_back o x y e) ∙ l) xs b

  below_all : (y x : K) (xs : List K) → R y x ≡ Less → Below x xs → Below y (x ∷ xs)
  below_all y x xs h a = (h, All-map {P = λ z. R x z ≡ Less} {Q = λ z. R y z ≡ Less} (λ z l. o.trans y x z h l) xs a)

  pub met : (xs ys : List K) → IsStrictlySortedBy R xs → IsStrictlySortedBy R ys → meets_all R xs ys ≡ list_all (is_among R ys) xs
  unfolding IsStrictlySortedBy
  met [] [] s t = refl
  met [] (y ∷ ys) s t = refl
  met (x ∷ xs) [] s t = refl
  met (x ∷ xs) (y ∷ ys) s t = by (R x y) refl (met xs ys s.1 t.1) (met (x ∷ xs) ys s t.1)
    where
      by : (r : Ordering) → R x y ≡ r → meets_all R xs ys ≡ list_all (is_among R ys) xs → meets_all R (x ∷ xs) ys ≡ list_all (is_among R ys) (x ∷ xs)
          → cond (eq_by_cmp R x y) (meets_all R xs ys) (meets_all R (x ∷ xs) ys) ≡ list_all (is_among R (y ∷ ys)) (x ∷ xs)
      by Equal e both one =
          ap (λ r. cond (is_eq r) (meets_all R xs ys) (meets_all R (x ∷ xs) ys)) e ∙ both
          ∙ sym (passed y ys xs (level_below x y xs e s.0)) ∙ sym (ap (λ r. (is_eq r || is_among R ys x) && list_all (is_among R (y ∷ ys)) xs) e)
      by Less e both one =
          ap (λ r. cond (is_eq r) (meets_all R xs ys) (meets_all R (x ∷ xs) ys)) e ∙ one
          ∙ ap (λ b. b && list_all (is_among R ys) xs) (never x ys (All-map {P = λ z. R y z ≡ Less} {Q = λ z. R x z ≡ Less} (λ z l. o.trans x y z e l) ys t.0))
          ∙ sym (ap (λ b. b && list_all (is_among R (y ∷ ys)) xs) (never x (y ∷ ys) (below_all x y ys e t.0)))
      by Greater e both one =
          ap (λ r. cond (is_eq r) (meets_all R xs ys) (meets_all R (x ∷ xs) ys)) e ∙ one
          ∙ sym (passed y ys (x ∷ xs) (below_all y x xs (under o x y e) s.0))

-- one step of the walk, at both places
module _ {K : Type 0} (R : K → K → Ordering) (xs ys : List K) (i j : ℕ) (x y : K) where
  step : i < length xs → j < length ys → meets_all R (drop i xs) (drop j ys) ≡ cond (eq_by_cmp R (get_or xs i x) (get_or ys j y)) (meets_all R (drop (i + 1) xs) (drop (j + 1) ys)) (meets_all R (drop i xs) (drop (j + 1) ys))
  step l m = (λ k. meets_all R (drop_more xs i x l k) (drop_more ys j y m k)) ∙ ap (λ l. cond (eq_by_cmp R (get_or xs i x) (get_or ys j y)) (meets_all R (drop (i + 1) xs) (drop (j + 1) ys)) (meets_all R l (drop (j + 1) ys))) (sym (drop_more xs i x l))

  pub meets : i < length xs → j < length ys → eq_by_cmp R (get_or xs i x) (get_or ys j y) ≡ true → meets_all R (drop i xs) (drop j ys) ≡ meets_all R (drop (i + 1) xs) (drop (j + 1) ys)
  meets l m e = step l m ∙ ap (λ b. cond b (meets_all R (drop (i + 1) xs) (drop (j + 1) ys)) (meets_all R (drop i xs) (drop (j + 1) ys))) e

  pub misses : i < length xs → j < length ys → eq_by_cmp R (get_or xs i x) (get_or ys j y) ≡ false → meets_all R (drop i xs) (drop j ys) ≡ meets_all R (drop i xs) (drop (j + 1) ys)
  misses l m e = step l m ∙ ap (λ b. cond b (meets_all R (drop (i + 1) xs) (drop (j + 1) ys)) (meets_all R (drop i xs) (drop (j + 1) ys))) e

drop_all : {K : Type 0} (xs : List K) (i : ℕ) → length xs ≤ i → drop i xs ≡ []
drop_all [] zero l = refl
drop_all [] (suc i) l = refl
drop_all (x ∷ xs) zero l = absurd (omega arith)
drop_all (x ∷ xs) (suc i) l = drop_all xs i (omega arith)

module _ {K : Type 0} (R : K → K → Ordering) (xs ys : List K) where
  -- where all are met, nothing is left to be met
  pub all_met : (i j : ℕ) → i ≡ length xs → meets_all R (drop i xs) (drop j ys) ≡ true
  all_met i j e = ap (λ l. meets_all R l (drop j ys)) (drop_all xs i (omega (arith, e)))

  some_left : (zs : List K) → 0 < length zs → meets_all R zs [] ≡ false
  some_left [] l = absurd (omega arith)
  some_left (z ∷ zs) l = refl

  -- and behind the end, all are met only then
  pub at_end : (i j : ℕ) → i ≤ length xs → length ys ≤ j → (i == length xs) ≡ meets_all R (drop i xs) (drop j ys)
  at_end i j l m = by (i == length xs) refl
    where
      by : (b : Bool) → (i == length xs) ≡ b → b ≡ meets_all R (drop i xs) (drop j ys)
      by true e = sym (all_met i j (eqb-true i (length xs) e))
      by false e =
          let other : i ≡ length xs → ⊥ = λ same. true≢false (sym (eq-eqb i (length xs) same) ∙ e) in
          sym (ap (meets_all R (drop i xs)) (drop_all ys j m) ∙ some_left (drop i xs) (omega (arith, length-drop i xs, other)))
