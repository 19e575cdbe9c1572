-- Lists compared place by place.
use Rattle.std.proofs.Common.{◌≡◌, ℕ, ◌<◌, ◌+◌, List, [], ◌∷◌, length, drop, get_or, ap, sym, ◌∙◌, refl, suc, add-one, arith, min}
use Rattle.plain_values.proofs.Common.{drop-cons, Ordering, Less, Equal, Greater, nat_cmp, ordering_then, slice_cmp}
use Rattle.std.specs.Cmp.{nat_cmp_is, ranked}
use Rattle.std.proofs.Math.Nat.{suc-min-suc}
use Rattle.std.specs.Ordering.{MatchOrdering}

raised : (m n : ℕ) (o : Ordering) → MatchOrdering o (m < n) (m ≡ n) (n < m) → MatchOrdering o (suc m < suc n) (suc m ≡ suc n) (suc n < suc m)
raised m n Less h = omega (arith, h)
raised m n Equal h = ap suc h
raised m n Greater h = omega (arith, h)

longer : (m n : ℕ) → nat_cmp m n ≡ nat_cmp (suc m) (suc n)
longer m n = nat_cmp_is (suc m) (suc n) (nat_cmp m n) (raised m n (nat_cmp m n) (ranked m n (nat_cmp m n) refl))

module _ {A B : Type 0} (R : A → B → Ordering) where
  -- how the rest of two lists compares: by the pair at this place, and then by what is behind it
  pub cmp_at : (xs : List A) (ys : List B) (i : ℕ) (x : A) (y : B) → i < length xs → i < length ys → x ≡ get_or xs i x → y ≡ get_or ys i y
      → slice_cmp R (drop i xs) (drop i ys) ≡ ordering_then (R x y) (slice_cmp R (drop (i + 1) xs) (drop (i + 1) ys))
  cmp_at xs ys i x y l m at by =
      (λ j. slice_cmp R (drop-cons xs i x l j) (drop-cons ys i y m j))
      ∙ (λ j. ordering_then (R (sym at j) (sym by j)) (slice_cmp R (drop (suc i) xs) (drop (suc i) ys)))
      ∙ ap (λ k. ordering_then (R x y) (slice_cmp R (drop k xs) (drop k ys))) (sym (add-one i))

  -- where one of them ends, their lengths decide
  pub cmp_ends : (xs : List A) (ys : List B) → slice_cmp R (drop (min (length xs) (length ys)) xs) (drop (min (length xs) (length ys)) ys) ≡ nat_cmp (length xs) (length ys)
  cmp_ends [] [] = nat_cmp_is 0 0 Equal refl
  cmp_ends [] (y ∷ ys) =
      let none : min 0 (suc (length ys)) ≡ 0 = omega arith in
      let less : 0 < suc (length ys) = omega arith in
      ap (λ n. slice_cmp R (drop n []) (drop n (y ∷ ys))) none ∙ nat_cmp_is 0 (suc (length ys)) Less less
  cmp_ends (x ∷ xs) [] =
      let none : min (suc (length xs)) 0 ≡ 0 = omega arith in
      let less : 0 < suc (length xs) = omega arith in
      ap (λ n. slice_cmp R (drop n (x ∷ xs)) (drop n [])) none ∙ nat_cmp_is (suc (length xs)) 0 Greater less
  cmp_ends (x ∷ xs) (y ∷ ys) =
      let one : min (suc (length xs)) (suc (length ys)) ≡ suc (min (length xs) (length ys)) = suc-min-suc (length xs) (length ys) in
      ap (λ n. slice_cmp R (drop n (x ∷ xs)) (drop n (y ∷ ys))) one ∙ cmp_ends xs ys ∙ longer (length xs) (length ys)

-- an order other than equality decides
pub then_other : (o p : Ordering) → (o ≡ Equal → ⊥) → ordering_then o p ≡ o
then_other Less p h = refl
then_other Equal p h = absurd (h refl)
then_other Greater p h = refl
