-- Pieces without a newline, and parts of a buffer.
use Rattle.std.proofs.Common.{◌≡◌, ◌≢◌, ◌≤◌, ◌<◌, ◌+◌, ◌-◌, ℕ, suc, List, [], ◌∷◌, ◌++◌, take, drop, length, get_or, ap, sym, ◌∙◌, arith, eq-eqb, length-drop, length-take-le, drop-drop, slice_range}
use Rattle.std.proofs.Math.Seq.{take-add}
use Rattle.std.proofs.lemmas.List.{drop_more, get_or-take, get_or-drop, drop-take}
use Rattle.memchr.specs.Find.{Nowhere, Passes, is_byte}
use Rattle.lens_io.specs.Cutting.{HasNoNewline}

pub clear-append : (xs ys : List ℕ) → HasNoNewline xs → HasNoNewline ys → HasNoNewline (xs ++ ys)
clear-append [] ys p q = q
clear-append (x ∷ xs) ys p q = (p.0, clear-append xs ys p.1 q)

pub clear_from : (xs : List ℕ) → ((k : ℕ) → k < length xs → get_or xs k 0 ≢ 10) → HasNoNewline xs
clear_from [] h = tt
clear_from (x ∷ xs) h = (h 0 (omega arith), clear_from xs (λ k p. h (suc k) (omega arith)))

pub length-range : (xs : List ℕ) (i j : ℕ) → i ≤ j → j ≤ length xs → length (slice_range xs i j) ≡ j - i
length-range xs i j p q = length-take-le (j - i) (drop i xs) (omega (arith, length-drop i xs))

pub range_join : (xs : List ℕ) (i j k : ℕ) → i ≤ j → j ≤ k → slice_range xs i k ≡ slice_range xs i j ++ slice_range xs j k
range_join xs i j k p q =
    let far : k - i ≡ (j - i) + (k - j) = omega arith in
    let on : drop (j - i) (drop i xs) ≡ drop j xs = drop-drop (j - i) i xs ∙ (let e : i + (j - i) ≡ j = omega arith in ap (λ n. drop n xs) e) in
    ap (λ n. take n (drop i xs)) far ∙ take-add (j - i) (k - j) (drop i xs) ∙ ap (λ v. slice_range xs i j ++ take (k - j) v) on

pub take_join : (xs : List ℕ) (j k : ℕ) → j ≤ k → take k xs ≡ take j xs ++ slice_range xs j k
take_join xs j k p = (let e : k ≡ j + (k - j) = omega arith in ap (λ n. take n xs) e) ∙ take-add j (k - j) xs

-- a part of the buffer at a newline in it
pub range_at : (xs : List ℕ) (i at k : ℕ) → i ≤ at → at < k → k ≤ length xs → get_or xs at 0 ≡ 10 → slice_range xs i k ≡ slice_range xs i at ++ 10 ∷ slice_range xs (at + 1) k
range_at xs i at k p q r is =
    let far : k - at ≡ suc (k - (at + 1)) = omega arith in
    let next : slice_range xs at k ≡ 10 ∷ slice_range xs (at + 1) k =
    ap (λ v. take (k - at) v) (drop_more xs at 0 (omega arith) ∙ ap (λ b. b ∷ drop (at + 1) xs) is) ∙ ap (λ n. take n (10 ∷ drop (at + 1) xs)) far in
    range_join xs i at k p (omega arith) ∙ ap (λ v. slice_range xs i at ++ v) next

-- what memchr found is the first newline, or there is none
pub none_there : (hay : List ℕ) → Nowhere (Passes (is_byte 10) hay) 0 (length hay) → HasNoNewline hay
none_there hay none = clear_from hay (λ k p e. none k (omega arith) p (eq-eqb (get_or hay k 0) 10 e))

pub first_there : (xs : List ℕ) (i j at : ℕ) → i ≤ j → j ≤ length xs → at < length (slice_range xs i j) → Nowhere (Passes (is_byte 10) (slice_range xs i j)) 0 at → get_or (slice_range xs i j) at 0 ≡ 10
    → (i ≤ i + at) × (i + at < j) × HasNoNewline (slice_range xs i (i + at)) × (get_or xs (i + at) 0 ≡ 10)
first_there xs i j at p q inside before is =
    let size : length (slice_range xs i j) ≡ j - i = length-range xs i j p q in
    let few : at < j - i = omega arith in
    let front : slice_range xs i (i + at) ≡ take at (drop i xs) = (let e : i + at - i ≡ at = omega arith in ap (λ n. take n (drop i xs)) e) in
    let long : at ≤ length (drop i xs) = omega (arith, length-drop i xs) in (
      omega arith,
      omega arith,
      clear_from (slice_range xs i (i + at)) (λ k below e.
          let near : k < at = omega (arith, ap length front, length-take-le at (drop i xs) long) in
          before k (omega arith) near (eq-eqb (get_or (slice_range xs i j) k 0) 10
          (get_or-take (j - i) (drop i xs) k 0 (omega arith) ∙ sym (get_or-take at (drop i xs) k 0 near) ∙ ap (λ v. get_or v k 0) (sym front) ∙ e))),
      sym (get_or-drop i xs at 0) ∙ sym (get_or-take (j - i) (drop i xs) at 0 few) ∙ is,
    )

pub range_of : (xs : List ℕ) (i j : ℕ) → i ≤ j → slice_range xs i j ≡ drop i (take j xs)
range_of xs i j p = sym (drop-take i (j - i) xs) ∙ (let e : i + (j - i) ≡ j = omega arith in ap (λ n. drop i (take n xs)) e)
