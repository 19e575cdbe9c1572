-- The number that the first bytes of a text spell: it orders texts that begin otherwise.
use Rattle.std.proofs.Common.{[], ◌∷◌, ◌<◌, ◌+◌, ◌*◌, zero, suc, ◌≡◌, sym, ap, subst, refl, ◌∙◌, length, List, ◌++◌, ℕ, IsTrue, true, arith, take, replicate, ◌&&◌, ◌==◌, ◌≢◌, not, nat_le, slice_index}
use Rattle.std.specs.List.{list_all}
use Rattle.std.specs.declared.cmp.Ordering.{Ordering}
use Rattle.std.specs.declared.cmp.Ordering.TheVariants.{Less, Equal, Greater}
use Rattle.std.specs.Ordering.{MatchOrdering, nat_cmp, ordering_then, ordering_reverse}
use Rattle.std.specs.Cmp.{ranks}
use Rattle.std.specs.Cmp.Lexicographic.{nat_list_cmp_total}
use Rattle.std.proofs.lemmas.Bool.Decides.{nat_tests}
use Rattle.plain_values.specs.Bytes.{is_name, is_name_byte, is_lower}
use Rattle.plain_values.specs.NameBytes.{spelt}
use Rattle.plain_values.specs.Order.{bytes_cmp}
use Rattle.plain_values.specs.ShortBytes.{is_text_byte}
use Rattle.plain_values.proofs.Tests.{first_holds, second_holds}

-- zeros behind the bytes change nothing
pub zeros : (k n m : ℕ) → spelt k n (replicate m 0) ≡ spelt k n []
zeros zero n m = refl
zeros (suc k) n zero = refl
zeros (suc k) n (suc m) = ap (λ a. spelt k a (replicate m 0)) (omega arith) ∙ zeros k (n * 256) m

pub spelt-zeros : (k n : ℕ) (v : List ℕ) (m : ℕ) → spelt k n (v ++ replicate m 0) ≡ spelt k n v
spelt-zeros zero n v m = refl
spelt-zeros (suc k) n [] m = zeros (suc k) n m
spelt-zeros (suc k) n (b ∷ v) m = spelt-zeros k (n * 256 + b) v m

-- bytes other than zero
abbrev pub AreText : List ℕ → Type 0
AreText v = list_all is_text_byte v ≡ true

name_byte : (b : ℕ) → is_name_byte b ≡ true → is_text_byte b ≡ true
name_byte b h = grind (arith, nat_tests)

name_bytes : (v : List ℕ) → list_all is_name_byte v ≡ true → AreText v
name_bytes [] h = refl
name_bytes (b ∷ v) h =
    ap (λ t. t && list_all is_text_byte v) (name_byte b (first_holds (is_name_byte b) (list_all is_name_byte v) h)) ∙ name_bytes v (second_holds (is_name_byte b) (list_all is_name_byte v) h)

letters : (v : List ℕ) → IsTrue (is_name v) → AreText v
letters v h = name_bytes v (second_holds (is_lower (slice_index v 0)) (list_all is_name_byte v) (second_holds (not (length v == 0) && nat_le (length v) 32) (is_lower (slice_index v 0) && list_all is_name_byte v) h))

lowest : (b : ℕ) → is_text_byte b ≡ true → 0 < b
lowest b h = grind (arith, nat_tests)

highest : (b : ℕ) → is_text_byte b ≡ true → b < 256
highest b h = grind (arith, nat_tests)

module _ (b : ℕ) (v : List ℕ) (h : AreText (b ∷ v)) where
  pub positive : 0 < b
  positive = lowest b (first_holds (is_text_byte b) (list_all is_text_byte v) h)

  bounded : b < 256
  bounded = highest b (first_holds (is_text_byte b) (list_all is_text_byte v) h)

  pub others : AreText v
  others = second_holds (is_text_byte b) (list_all is_text_byte v) h

pub rises : (k a b : ℕ) (v w : List ℕ) → AreText v → a < b → spelt k a v < spelt k b w
rises zero a b v w h l = l
rises (suc k) a b [] [] h l = rises k (a * 256) (b * 256) [] [] refl (omega arith)
rises (suc k) a b [] (d ∷ w) h l = rises k (a * 256) (b * 256 + d) [] w refl (omega arith)
rises (suc k) a b (c ∷ v) [] h l = rises k (a * 256 + c) (b * 256) v [] (others c v h) (omega (arith, bounded c v h))
rises (suc k) a b (c ∷ v) (d ∷ w) h l = rises k (a * 256 + c) (b * 256 + d) v w (others c v h) (omega (arith, bounded c v h))

-- the lesser number is of the lesser name
less : (k a : ℕ) (v w : List ℕ) → AreText v → AreText w → spelt k a v < spelt k a w → bytes_cmp v w ≡ Less
less zero a v w g h l = absurd (omega arith)
less (suc k) a [] [] g h l = absurd (omega arith)
less (suc k) a [] (d ∷ w) g h l = refl
less (suc k) a (c ∷ v) [] g h l = let t = rises k (a * 256) (a * 256 + c) [] v refl (omega (arith, positive c v g)) in absurd (omega arith)
less (suc k) a (c ∷ v) (d ∷ w) g h l = by (nat_cmp c d) refl (ranks c d) (less k (a * 256 + c) v w (others c v g) (others d w h))
  where
    by : (r : Ordering) → nat_cmp c d ≡ r → MatchOrdering r (c < d) (c ≡ d) (d < c) → (spelt k (a * 256 + c) v < spelt k (a * 256 + c) w → bytes_cmp v w ≡ Less) → bytes_cmp (c ∷ v) (d ∷ w) ≡ Less
    by Less e m rest = ap (λ r. ordering_then r (bytes_cmp v w)) e
    by Equal e m rest =
        let same : c ≡ d = m in
        ap (λ r. ordering_then r (bytes_cmp v w)) e ∙ rest (subst (λ x. spelt k (a * 256 + c) v < spelt k (a * 256 + x) w) (sym same) l)
    by Greater e m rest =
        let over : d < c = m in
        let t = rises k (a * 256 + d) (a * 256 + c) w v (others d w h) (omega arith) in
        absurd (omega arith)

-- equal numbers are of names that begin alike
level : (k a : ℕ) (v w : List ℕ) → AreText v → AreText w → spelt k a v ≡ spelt k a w → take k v ≡ take k w
level zero a v w g h e = refl
level (suc k) a [] [] g h e = refl
level (suc k) a [] (d ∷ w) g h e = let t = rises k (a * 256) (a * 256 + d) [] w refl (omega (arith, positive d w h)) in absurd (omega arith)
level (suc k) a (c ∷ v) [] g h e = let t = rises k (a * 256) (a * 256 + c) [] v refl (omega (arith, positive c v g)) in absurd (omega arith)
level (suc k) a (c ∷ v) (d ∷ w) g h e = by (nat_cmp c d) (ranks c d) (level k (a * 256 + c) v w (others c v g) (others d w h))
  where
    by : (r : Ordering) → MatchOrdering r (c < d) (c ≡ d) (d < c) → (spelt k (a * 256 + c) v ≡ spelt k (a * 256 + c) w → take k v ≡ take k w) → c ∷ take k v ≡ d ∷ take k w
    by Less m rest =
        let under : c < d = m in
        let t = rises k (a * 256 + c) (a * 256 + d) v w (others c v g) (omega arith) in
        absurd (omega arith)
    by Equal m rest =
        let same : c ≡ d = m in
        λ i. same i ∷ rest (e ∙ ap (λ x. spelt k (a * 256 + x) w) (sym same)) i
    by Greater m rest =
        let over : d < c = m in
        let t = rises k (a * 256 + d) (a * 256 + c) w v (others d w h) (omega arith) in
        absurd (omega arith)

module _ (v w : List ℕ) (g : IsTrue (is_name v)) (h : IsTrue (is_name w)) where
  pub begin_alike : spelt 8 0 v ≡ spelt 8 0 w → take 8 v ≡ take 8 w
  begin_alike = level 8 0 v w (letters v g) (letters w h)

  -- other numbers order the names
  pub apart : (r : Ordering) → MatchOrdering r (spelt 8 0 v < spelt 8 0 w) (spelt 8 0 v ≡ spelt 8 0 w) (spelt 8 0 w < spelt 8 0 v) → (r ≢ Equal) → r ≡ bytes_cmp v w
  apart Less m n = sym (less 8 0 v w (letters v g) (letters w h) m)
  apart Equal m n = absurd (n refl)
  apart Greater m n = sym (nat_list_cmp_total.antisymm v w ∙ ap ordering_reverse (less 8 0 w v (letters w h) (letters v g) m))

  front_cmp : (x y : ℕ) (r : Ordering) → x ≡ spelt 8 0 v → y ≡ spelt 8 0 w → r ≡ nat_cmp x y → MatchOrdering r (spelt 8 0 v < spelt 8 0 w) (spelt 8 0 v ≡ spelt 8 0 w) (spelt 8 0 w < spelt 8 0 v)
  front_cmp x y r p q e =
      subst (λ k. MatchOrdering k (spelt 8 0 v < spelt 8 0 w) (spelt 8 0 v ≡ spelt 8 0 w) (spelt 8 0 w < spelt 8 0 v)) (sym (e ∙ (λ i. nat_cmp (p i) (q i)))) (ranks (spelt 8 0 v) (spelt 8 0 w))

  pub tie : (x y : ℕ) (r : Ordering) → x ≡ spelt 8 0 v → y ≡ spelt 8 0 w → r ≡ nat_cmp x y → r ≡ Equal → take 8 v ≡ take 8 w
  tie x y r p q e is = begin_alike (subst (λ k. MatchOrdering k (spelt 8 0 v < spelt 8 0 w) (spelt 8 0 v ≡ spelt 8 0 w) (spelt 8 0 w < spelt 8 0 v)) is (front_cmp x y r p q e))

  pub order : (x y : ℕ) (r : Ordering) → x ≡ spelt 8 0 v → y ≡ spelt 8 0 w → r ≡ nat_cmp x y → (r ≢ Equal) → r ≡ bytes_cmp v w
  order x y r p q e n = apart r (front_cmp x y r p q e) n
