-- A number in decimal is spelled by its digits.
use Rattle.std.proofs.Common.{length, length-append, ◌≡◌, inl, inr, ℕ, zero, suc, ◌+◌, ◌*◌, ◌-◌, ◌/◌, ◌%◌, ◌^◌, ◌<◌, ◌≤◌, Bool, true, List, [], ◌∷◌, ◌++◌, refl, sym, ap, ◌∙◌, arith, ℤ, pos, negsuc, nat_lt, nat_le}
use Rattle.plain_values.proofs.Common.{signed_decimal, and_from, nat_tests, list_all-append}
use Rattle.std.specs.Fmt.{decimal}
use Rattle.std.proofs.lemmas.Fmt.{decimal_by_steps}
use Rattle.grammar_specs.specs.Common.{is_digit, digits_value, minus, AreDigits, SpellsInteger}

-- the bytes are digits, and are worth the number
record Digits (n : ℕ) (bytes : List ℕ) : Type 0 where
  are : AreDigits bytes
  worth : digits_value 0 bytes ≡ n

is_glyph : (n : ℕ) → n < 10 → is_digit (48 + n) ≡ true
is_glyph n h = grind (arith, nat_tests)

one_digit : (n : ℕ) → n < 10 → Digits n ((48 + n) ∷ [])
one_digit n h = record {
  are = (λ e. cc, and_from (is_digit (48 + n)) true (is_glyph n h) refl);
  worth = omega arith;
}

-- a digit more
value-append : (k : ℕ) (bytes : List ℕ) (b : ℕ) → digits_value k (bytes ++ b ∷ []) ≡ 10 * digits_value k bytes + (b - 48)
value-append k [] b = refl
value-append k (c ∷ bytes) b = value-append (10 * k + (c - 48)) bytes b

digit_more : (n : ℕ) (bytes : List ℕ) → 10 ≤ n → Digits (n / 10) bytes → Digits n (bytes ++ (48 + n % 10) ∷ [])
digit_more n bytes h d = record {
  are = (λ e. absurd (omega (arith, ap length e, length-append bytes ((48 + n % 10) ∷ []))), list_all-append is_digit bytes ((48 + n % 10) ∷ []) ∙ and_from _ _ d.are.1 (and_from (is_digit (48 + n % 10)) true (is_glyph (n % 10) (omega arith)) refl));
  worth = value-append 0 bytes (48 + n % 10) ∙ omega (arith, d.worth);
}

decimal_digits : (n : ℕ) → n < 2 ^ 64 → Digits n (decimal n)
decimal_digits = decimal_by_steps Digits one_digit digit_more

-- an integer of 64 bits
abbrev pub in_range : ℤ → Bool
in_range (pos n) = nat_lt n (2 ^ 63)
in_range (negsuc n) = nat_lt n (2 ^ 63)

-- is spelled in decimal
pub decimal_spells : (z : ℤ) → in_range z ≡ true → SpellsInteger z (signed_decimal z)
decimal_spells (pos n) h =
    let small : n < 2 ^ 63 = grind (arith, nat_tests) in
    let d = decimal_digits n (omega (arith, small)) in
    inl (d.are, ap pos (sym d.worth), ap (λ k. nat_lt k (2 ^ 63)) d.worth ∙ h)
decimal_spells (negsuc n) h =
    let small : n < 2 ^ 63 = grind (arith, nat_tests) in
    let d = decimal_digits (suc n) (omega (arith, small)) in
    let within : nat_le (suc n) (2 ^ 63) ≡ true = grind (arith, nat_tests) in
    inr (decimal (suc n), refl, d.are, sym (ap minus d.worth), ap (λ k. nat_le k (2 ^ 63)) d.worth ∙ within)

minus_range : (n : ℕ) → nat_le n (2 ^ 63) ≡ true → in_range (minus n) ≡ true
minus_range zero h = refl
minus_range (suc n) h = grind (arith, nat_tests)

-- and what is spelled is one
pub spelled_range : (z : ℤ) (bytes : List ℕ) → SpellsInteger z bytes → in_range z ≡ true
spelled_range z bytes (inl h) = ap in_range h.1 ∙ h.2
spelled_range z bytes (inr h) = ap in_range h.3 ∙ minus_range (digits_value 0 h.0) h.4
