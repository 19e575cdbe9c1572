-- Walks along two strictly rising lists, whose members are their own keys.
use Rattle.std.proofs.Common.{◌≡◌, ℕ, ◌+◌, ◌<◌, ◌≤◌, List, [], ◌∷◌, ◌++◌, length, drop, get_or, ap, sym, subst, ◌∙◌, refl, Bool, false, zero, suc, arith, map-id, not, filter}
use Rattle.plain_values.proofs.Common.{Ordering, Less, Equal, Greater, list_any, IsStrictlySortedBy, eq_by_cmp, IsTotalOrder, KeysRise}
use Rattle.lens_values.proofs.Walks.{kept_past, missing_less, missing_equal}
pub use Rattle.lens_values.proofs.Walks.{any_none, apart, below_all, merge, merge_ends, merge_ends_right, under}

drop_past : {K : Type 0} (xs : List K) (i : ℕ) → length xs ≤ i → drop i xs ≡ []
drop_past [] zero l = refl
drop_past [] (suc i) l = refl
drop_past (x ∷ xs) zero l = absurd (omega arith)
drop_past (x ∷ xs) (suc i) l = drop_past xs i (omega arith)

module _ {K : Type 0} (R : K → K → Ordering) where
  -- whether the list has the member
  abbrev pub has : List K → K → Bool
  has xs q = list_any (eq_by_cmp R q) xs

  -- the members of xs that ys lacks
  abbrev pub rest_of : List K → List K → List K
  rest_of xs ys = filter (λ k. not (has ys k)) xs

  rest-nil : (xs : List K) → rest_of xs [] ≡ xs
  rest-nil [] = refl
  rest-nil (x ∷ xs) = ap (λ l. x ∷ l) (rest-nil xs)

  own : (xs : List K) → IsStrictlySortedBy R xs → KeysRise R (λ x. x) xs
  own xs s = subst (IsStrictlySortedBy R) (sym (map-id xs)) s

-- one turn of a walk along xs from i on and ys from j on, after `all`
module _ {K : Type 0} {R : K → K → Ordering} (o : IsTotalOrder R) (xs ys all : List K) (i j : ℕ) (x y : K) (u : i < length xs) (v : j < length ys) (a : x ≡ get_or xs i x) (b : y ≡ get_or ys j y) (whole : List K) where
  pub keep_less : IsStrictlySortedBy R ys → R x y ≡ Less → all ++ rest_of R (drop i xs) (drop j ys) ≡ whole → (all ++ x ∷ []) ++ rest_of R (drop (i + 1) xs) (drop j ys) ≡ whole
  keep_less t r h = missing_less o (λ x. x) xs all ys i j x y u v a b whole t r h

  pub keep_equal : IsStrictlySortedBy R xs → R x y ≡ Equal → all ++ rest_of R (drop i xs) (drop j ys) ≡ whole → all ++ rest_of R (drop (i + 1) xs) (drop (j + 1) ys) ≡ whole
  keep_equal s r h = missing_equal o (λ x. x) xs all ys i j x y u v a b whole (own R xs s) r h

  pub keep_greater : IsStrictlySortedBy R xs → R x y ≡ Greater → all ++ rest_of R (drop i xs) (drop j ys) ≡ whole → all ++ rest_of R (drop i xs) (drop (j + 1) ys) ≡ whole
  keep_greater s r h = kept_past o (λ x. x) xs all ys i j x y u v a b false whole (own R xs s) r h

-- where one of the two is at its end
module _ {K : Type 0} (R : K → K → Ordering) (xs ys : List K) (i j : ℕ) where
  pub rest_ends : length xs ≤ i → rest_of R (drop i xs) (drop j ys) ≡ drop i xs
  rest_ends l = let e = drop_past xs i l in ap (λ l. rest_of R l (drop j ys)) e ∙ sym e

  pub rest_ends_right : length ys ≤ j → rest_of R (drop i xs) (drop j ys) ≡ drop i xs
  rest_ends_right l = ap (λ l. rest_of R (drop i xs) l) (drop_past ys j l) ∙ rest-nil R (drop i xs)
