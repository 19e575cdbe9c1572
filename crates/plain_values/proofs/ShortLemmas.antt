-- Short texts compared by the numbers that their bytes spell: eight for each of the first two, and six for the last.
use Rattle.std.proofs.Common.{[], ◌∷◌, ◌<◌, ◌≤◌, ◌+◌, ◌-◌, ◌*◌, zero, suc, ◌≡◌, sym, ap, subst, refl, ◌∙◌, length, List, ◌++◌, ℕ, IsTrue, Bool, true, false, arith, take, drop, replicate, get_or, length-append, length-drop, ◌&&◌, ◌||◌, ◌==◌, ◌≢◌, not, nat_le}
use Rattle.std.specs.List.{list_all, list_any}
use Rattle.std.specs.Str.{IsUtf8}
use Rattle.std.specs.declared.cmp.Ordering.{Ordering}
use Rattle.std.specs.declared.cmp.Ordering.TheVariants.{Less, Equal, Greater}
use Rattle.std.specs.Ordering.{MatchOrdering, nat_cmp, ordering_then}
use Rattle.std.specs.Cmp.{ranks, nat_cmp_is}
use Rattle.std.proofs.lemmas.List.{drop-drop, drop-replicate, take_at, length-take-le}
use Rattle.std.proofs.lemmas.Bool.Decides.{nat_tests}
use Rattle.plain_values.specs.Bytes.{is_text}
use Rattle.plain_values.specs.NameBytes.{spelt}
use Rattle.plain_values.specs.Order.{bytes_cmp}
use Rattle.plain_values.specs.ShortBytes.{KeepsShort, is_text_byte}
use Rattle.plain_values.proofs.Fronts.{AreText, others, positive, rises, spelt-zeros, zeros}
use Rattle.plain_values.proofs.Tests.{second_holds}

-- ---- a text that is written into an array of zeros

text_byte : (b : ℕ) → (b == 0) ≡ false → b < 256 → is_text_byte b ≡ true
text_byte b n l = grind (arith, nat_tests)

neither : (a b : Bool) → not (a || b) ≡ true → (a ≡ false) × (not b ≡ true)
neither true b h = cc
neither false b h = (refl, h)

text_bytes : (v : List ℕ) → ((k : ℕ) → get_or v k 0 < 256) → not (list_any (λ b. b == 0) v) ≡ true → AreText v
text_bytes [] l h = refl
text_bytes (b ∷ v) l h =
    let parts = neither (b == 0) (list_any (λ x. x == 0) v) h in
    ap (λ t. t && list_all is_text_byte v) (text_byte b parts.0 (l 0)) ∙ text_bytes v (λ k. l (suc k)) parts.1

pub keeps_short : (text : List ℕ) → ((k : ℕ) → get_or text k 0 < 256) → IsTrue (is_text text) → IsUtf8 text → length text ≤ 22
    → KeepsShort (text ++ drop (length text) (replicate 22 0)) (length text)
keeps_short text small h utf8 short =
    let front : take (length text) (text ++ drop (length text) (replicate 22 0)) ≡ text = take_at text (drop (length text) (replicate 22 0)) (length text) refl in
    let long : length (text ++ drop (length text) (replicate 22 0)) ≡ 22 = rw length-append (rw length-drop (omega (arith, short))) in
    record {
      text = subst (λ t. IsTrue (list_all is_text_byte t)) (sym front) (text_bytes text small (second_holds (nat_le (length text) 4096) (not (list_any (λ b. b == 0) text)) h));
      utf8 = ∣ subst IsUtf8 (sym front) utf8 ∣₁;
      within = omega (arith, long, short);
      full = long;
      whole = rw front (rw drop-replicate refl);
    }

-- ---- the number of eight bytes orders texts by these

level : (n : ℕ) → nat_cmp n n ≡ Equal
level n = sym (nat_cmp_is n n Equal refl)

number_cmp : (k a : ℕ) (v w : List ℕ) → AreText v → AreText w → nat_cmp (spelt k a v) (spelt k a w) ≡ bytes_cmp (take k v) (take k w)
number_cmp zero a v w g h = level a
number_cmp (suc k) a [] [] g h = level (spelt k (a * 256) [])
number_cmp (suc k) a [] (d ∷ w) g h = sym (nat_cmp_is (spelt k (a * 256) []) (spelt k (a * 256 + d) w) Less (rises k (a * 256) (a * 256 + d) [] w refl (omega (arith, positive d w h))))
number_cmp (suc k) a (c ∷ v) [] g h = sym (nat_cmp_is (spelt k (a * 256 + c) v) (spelt k (a * 256) []) Greater (rises k (a * 256) (a * 256 + c) [] v refl (omega (arith, positive c v g))))
number_cmp (suc k) a (c ∷ v) (d ∷ w) g h = by (nat_cmp c d) refl (ranks c d) (number_cmp k (a * 256 + c) v w (others c v g) (others d w h))
  where
    by : (r : Ordering) → nat_cmp c d ≡ r → MatchOrdering r (c < d) (c ≡ d) (d < c)
        → nat_cmp (spelt k (a * 256 + c) v) (spelt k (a * 256 + c) w) ≡ bytes_cmp (take k v) (take k w)
        → nat_cmp (spelt k (a * 256 + c) v) (spelt k (a * 256 + d) w) ≡ ordering_then (nat_cmp c d) (bytes_cmp (take k v) (take k w))
    by Less e m rest =
        let under : c < d = m in
        sym (nat_cmp_is (spelt k (a * 256 + c) v) (spelt k (a * 256 + d) w) Less (rises k (a * 256 + c) (a * 256 + d) v w (others c v g) (omega arith))) ∙ sym (ap (λ r. ordering_then r (bytes_cmp (take k v) (take k w))) e)
    by Equal e m rest =
        let same : c ≡ d = m in
        ap (λ x. nat_cmp (spelt k (a * 256 + c) v) (spelt k (a * 256 + x) w)) (sym same) ∙ rest ∙ sym (ap (λ r. ordering_then r (bytes_cmp (take k v) (take k w))) e)
    by Greater e m rest =
        let over : d < c = m in
        sym (nat_cmp_is (spelt k (a * 256 + c) v) (spelt k (a * 256 + d) w) Greater (rises k (a * 256 + d) (a * 256 + c) w v (others d w h) (omega arith))) ∙ sym (ap (λ r. ordering_then r (bytes_cmp (take k v) (take k w))) e)

then_then : (a b c : Ordering) → ordering_then a (ordering_then b c) ≡ ordering_then (ordering_then a b) c
then_then Less b c = refl
then_then Equal b c = refl
then_then Greater b c = refl

-- lists are compared by their first members, and then by the others
cut : (k : ℕ) (v w : List ℕ) → bytes_cmp v w ≡ ordering_then (bytes_cmp (take k v) (take k w)) (bytes_cmp (drop k v) (drop k w))
cut zero v w = refl
cut (suc k) [] [] = refl
cut (suc k) [] (d ∷ w) = refl
cut (suc k) (c ∷ v) [] = refl
cut (suc k) (c ∷ v) (d ∷ w) =
    ap (ordering_then (nat_cmp c d)) (cut k v w) ∙ then_then (nat_cmp c d) (bytes_cmp (take k v) (take k w)) (bytes_cmp (drop k v) (drop k w))

text_behind : (k : ℕ) (v : List ℕ) → AreText v → AreText (drop k v)
text_behind zero v g = g
text_behind (suc k) [] g = refl
text_behind (suc k) (b ∷ v) g = text_behind k v (others b v g)

spelt_behind : (at k n : ℕ) (v : List ℕ) (m : ℕ) → spelt k n (drop at (v ++ replicate m 0)) ≡ spelt k n (drop at v)
spelt_behind zero k n v m = spelt-zeros k n v m
spelt_behind (suc at) k n [] m = ap (spelt k n) (drop-replicate (suc at) m 0) ∙ zeros k n (m - suc at)
spelt_behind (suc at) k n (b ∷ v) m = spelt_behind at k n v m

all_of : (k : ℕ) (v : List ℕ) → length v ≤ k → take k v ≡ v
all_of zero [] l = refl
all_of zero (b ∷ v) l = absurd (omega arith)
all_of (suc k) [] l = refl
all_of (suc k) (b ∷ v) l = ap (λ t. b ∷ t) (all_of k v (omega arith))

module _ (b d : List ℕ) (m n : ℕ) (g : KeepsShort b m) (h : KeepsShort d n) where
  abbrev v : List ℕ
  v = take m b

  abbrev w : List ℕ
  w = take n d

  -- how so many bytes from a place on compare, by their number
  abbrev pub numbers_cmp : ℕ → ℕ → Ordering
  numbers_cmp k at = nat_cmp (spelt k 0 (drop at b)) (spelt k 0 (drop at d))

  by_number : (k at : ℕ) → numbers_cmp k at ≡ bytes_cmp (take k (drop at v)) (take k (drop at w))
  by_number k at =
      (λ i. nat_cmp (spelt k 0 (drop at (g.whole i))) (spelt k 0 (drop at (h.whole i))))
      ∙ (λ i. nat_cmp (spelt_behind at k 0 v (22 - length v) i) (spelt_behind at k 0 w (22 - length w) i))
      ∙ number_cmp k 0 (drop at v) (drop at w) (text_behind at v g.text) (text_behind at w h.text)

  -- by three numbers, since there are at most 22 bytes
  pub by_numbers : bytes_cmp v w ≡ ordering_then (numbers_cmp 8 0) (ordering_then (numbers_cmp 8 8) (numbers_cmp 6 16))
  by_numbers =
      let long : length v ≤ 22 = omega (arith, length-take-le m b g.within, g.within, g.full) in
      let wide : length w ≤ 22 = omega (arith, length-take-le n d h.within, h.within, h.full) in
      let end : bytes_cmp (drop 16 v) (drop 16 w) ≡ numbers_cmp 6 16 =
      (λ i. bytes_cmp (sym (all_of 6 (drop 16 v) (omega (arith, long, length-drop 16 v))) i) (sym (all_of 6 (drop 16 w) (omega (arith, wide, length-drop 16 w))) i)) ∙ sym (by_number 6 16)
      in
      let middle : bytes_cmp (drop 8 v) (drop 8 w) ≡ ordering_then (numbers_cmp 8 8) (numbers_cmp 6 16) =
      cut 8 (drop 8 v) (drop 8 w) ∙ (λ i. ordering_then (sym (by_number 8 8) i) (bytes_cmp (drop-drop 8 8 v i) (drop-drop 8 8 w i))) ∙ ap (ordering_then (numbers_cmp 8 8)) end
      in
      cut 8 v w ∙ (λ i. ordering_then (sym (by_number 8 0) i) (middle i))

-- ---- which of the comparisons decides

pub first_other : (r o p : Ordering) → r ≡ ordering_then o p → (o ≢ Equal) → o ≡ r
first_other r Less p e n = sym e
first_other r Equal p e n = absurd (n refl)
first_other r Greater p e n = sym e

pub behind_equal : (r o p : Ordering) → r ≡ ordering_then o p → o ≡ Equal → r ≡ p
behind_equal r o p e is = e ∙ ap (λ x. ordering_then x p) is
