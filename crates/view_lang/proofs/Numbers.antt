-- What std's `parse` makes of an integer of the language.
use Rattle.std.proofs.Common.{◌≡◌, ℕ, ◌<◌, ◌≤◌, ◌^◌, suc, zero, true, false, cond, List, [], ◌∷◌, length, IsTrue, refl, ap, ◌∙◌, arith, rules, pos, neg_ℤ, ℤ, lt-ltb, ltb-true, le-leb, leb-true, ◌≢◌, ◌||◌, ◌==◌, nat_le, nat_lt, Option, Some, None, Result, Ok, Err, option_map}
use Rattle.plain_values.proofs.Common.{list_all, OkIff, result_ok, ParsesSigned, IsNumeralModel, numerals_by_fold, parse_signed_plain, parse_signed_minus, nat_tests, first_holds, second_holds}
use mir.Syntax.{w64}
use Rattle.grammar_specs.specs.Common.{Token, integer, is_digit, digits_value, minus}
use Rattle.grammar_laws.specs.Front.{positive_of, negative_of}
use Rattle.view_lang.specs.TokenViews.{integer_at, is_integer_text}
use Rattle.view_lang.proofs.Fronts.{only_minus}

own : IsNumeralModel (λ ds. list_all is_digit ds ≡ true) (digits_value 0)
own = numerals_by_fold _ (search rules) digits_value (search rules)

minus_is : (n : ℕ) → neg_ℤ (pos n) ≡ minus n
minus_is zero = refl
minus_is (suc n) = refl

length_some : (b : ℕ) (ds : List ℕ) → 0 < length (b ∷ ds)
length_some b ds = omega arith

no_plus : (b : ℕ) → is_digit b ≡ true → b ≢ 43
no_plus b e = grind (arith, nat_tests)

no_minus : (b : ℕ) → is_digit b ≡ true → b ≢ 45
no_minus b e = grind (arith, nat_tests)

plain : {E : Type 0} (b : ℕ) (ds : List ℕ) (r : Result ℤ E) → OkIff r ((list_all is_digit (b ∷ ds) ≡ true) × (0 < length (b ∷ ds)) × (digits_value 0 (b ∷ ds) < 2 ^ 63)) (pos (digits_value 0 (b ∷ ds)))
    → list_all is_digit (b ∷ ds) ≡ true → option_map integer (result_ok r) ≡ positive_of (b ∷ ds)
plain b ds (Ok z) h all = rw (lt-ltb (digits_value 0 (b ∷ ds)) (2 ^ 63) h.0.2) (ap (λ y. Some (integer y)) h.1)
plain b ds (Err x) h all =
    elim (nat_lt (digits_value 0 (b ∷ ds)) (2 ^ 63)) as (λ v. nat_lt (digits_value 0 (b ∷ ds)) (2 ^ 63) ≡ v → ◌≡◌ {A = Option Token} None (cond v (Some (integer (pos (digits_value 0 (b ∷ ds))))) None)) [
      | true ↦ λ e. absurd (h (all, search (rules, length_some b ds), ltb-true _ _ e))
      | false ↦ λ e. refl
    ] refl

negative : {E : Type 0} (ds : List ℕ) (r : Result ℤ E) → OkIff r ((list_all is_digit ds ≡ true) × (0 < length ds) × (digits_value 0 ds ≤ 2 ^ 63)) (neg_ℤ (pos (digits_value 0 ds)))
    → list_all is_digit ds ≡ true → option_map integer (result_ok r) ≡ negative_of ds
negative [] (Ok z) h all = absurd (omega (arith, h.0.1))
negative [] (Err x) h all = refl
negative (d ∷ ds) (Ok z) h all =
    rw (le-leb (digits_value 0 (d ∷ ds)) (2 ^ 63) h.0.2) (ap (λ y. Some (integer y)) (h.1 ∙ minus_is (digits_value 0 (d ∷ ds))))
negative (d ∷ ds) (Err x) h all =
    elim (nat_le (digits_value 0 (d ∷ ds)) (2 ^ 63)) as (λ v. nat_le (digits_value 0 (d ∷ ds)) (2 ^ 63) ≡ v → ◌≡◌ {A = Option Token} None (cond v (Some (integer (minus (digits_value 0 (d ∷ ds))))) None)) [
      | true ↦ λ e. absurd (h (all, length_some d ds, leb-true _ _ e))
      | false ↦ λ e. refl
    ] refl

-- what `parse` gives is the integer that the bytes are
pub parsed_integer : {E : Type 0} (bytes : List ℕ) (r : Result ℤ E) → ParsesSigned w64 10 bytes r → IsTrue (is_integer_text bytes) → option_map integer (result_ok r) ≡ integer_at bytes
parsed_integer [] r p h = cc
parsed_integer (b ∷ ds) r p h =
    let digits : list_all is_digit ds ≡ true = second_holds (is_digit b || b == 45) (list_all is_digit ds) h in
    elim (is_digit b) as (λ v. is_digit b ≡ v → option_map integer (result_ok r) ≡ cond v (positive_of (b ∷ ds)) (negative_of ds)) [
      | true ↦ λ e. plain b ds r (parse_signed_plain own w64 (b ∷ ds) r p (no_plus b e) (no_minus b e)) (rw (e, digits) refl)
      | false ↦ λ e. negative ds r (parse_signed_minus own w64 (b ∷ ds) r p (only_minus b e (first_holds (is_digit b || b == 45) (list_all is_digit ds) h))) digits
    ] refl
