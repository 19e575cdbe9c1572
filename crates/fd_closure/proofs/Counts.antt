-- How many members of a list pass a test.
use Rattle.std.proofs.Common.{◌≡◌, ℕ, ◌+◌, Bool, true, false, cond, List, [], ◌∷◌, refl, sym, ap, ◌∙◌, inl, inr, arith, ◌&&◌, not, filter}
use Rattle.plain_values.proofs.Common.{count_by, list_any, false≢true, sum_by-cons, in_cons, in_head, in_tail}

one_or_none : (b : Bool) (n : ℕ) → cond b 1 0 + n ≡ 0 → (b ≡ false) × (n ≡ 0)
one_or_none true n e = absurd (omega arith)
one_or_none false n e = (refl, omega arith)

none_here : (b : Bool) (n : ℕ) → b ≡ false → n ≡ 0 → cond b 1 0 + n ≡ 0
none_here true n e z = cc
none_here false n e z = omega arith

split_here : (q p : Bool) (a b c : ℕ) → c ≡ a + b → cond p 1 0 + c ≡ (cond (q && p) 1 0 + a) + (cond (not q && p) 1 0 + b)
split_here true true a b c e = omega arith
split_here true false a b c e = omega arith
split_here false true a b c e = omega arith
split_here false false a b c e = omega arith

module _ {X : Type 0} where
  count-cons : (p : X → Bool) (x : X) (xs : List X) → count_by p (x ∷ xs) ≡ cond (p x) 1 0 + count_by p xs
  count-cons p x xs = sum_by-cons (λ y. cond (p y) 1 0) x xs

  pub count_alike : (p q : X → Bool) (xs : List X) → ((x : X) → p x ≡ q x) → count_by p xs ≡ count_by q xs
  count_alike p q xs h = ap (λ t. count_by t xs) (λ i x. h x i)

  -- of a filtered list
  pub count-filter : (p q : X → Bool) (xs : List X) → count_by p (filter q xs) ≡ count_by (λ x. q x && p x) xs
  count-filter p q [] = refl
  count-filter p q (x ∷ xs) =
      elim (q x) as (λ b. count_by p (cond b (x ∷ filter q xs) (filter q xs)) ≡ cond (b && p x) 1 0 + count_by (λ y. q y && p y) xs) [
        | true ↦ count-cons p x (filter q xs) ∙ ap (λ n. cond (p x) 1 0 + n) (count-filter p q xs)
        | false ↦ let e = count-filter p q xs in omega arith
      ] ∙ sym (count-cons (λ y. q y && p y) x xs)

  -- those that pass another test too, and those that do not
  pub count_split : (p q : X → Bool) (xs : List X) → count_by p xs ≡ count_by (λ x. q x && p x) xs + count_by (λ x. not (q x) && p x) xs
  count_split p q [] = refl
  count_split p q (x ∷ xs) =
      count-cons p x xs
      ∙ split_here (q x) (p x) (count_by (λ y. q y && p y) xs) (count_by (λ y. not (q y) && p y) xs) (count_by p xs) (count_split p q xs)
      ∙ sym (λ i. count-cons (λ y. q y && p y) x xs i + count-cons (λ y. not (q y) && p y) x xs i)

module _ {X : Type 0} (same : X → X → Bool) (exact : (x y : X) → same x y ≡ true → x ≡ y) (itself : (x : X) → same x x ≡ true) where
  -- where none passes, no member does
  pub count_none : (p : X → Bool) (xs : List X) → count_by p xs ≡ 0 → (x : X) → list_any (same x) xs ≡ true → p x ≡ false
  count_none p [] z x i = absurd (false≢true i)
  count_none p (y ∷ ys) z x i =
      let none = one_or_none (p y) (count_by p ys) (sym (count-cons p y ys) ∙ z) in
      elim (in_cons same exact itself x y ys i) [ inl is ↦ ap p is ∙ none.0 | inr j ↦ count_none p ys none.1 x j ]

  -- and the other way round
  pub none_counted : (p : X → Bool) (xs : List X) → ((x : X) → list_any (same x) xs ≡ true → p x ≡ false) → count_by p xs ≡ 0
  none_counted p [] h = refl
  none_counted p (y ∷ ys) h =
      count-cons p y ys
      ∙ none_here (p y) (count_by p ys) (h y (in_head same exact itself y ys)) (none_counted p ys (λ x i. h x (in_tail same exact itself x y ys i)))
