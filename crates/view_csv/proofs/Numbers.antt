-- What std's `parse` makes of a field.
use Rattle.std.proofs.Common.{◌≡◌, ◌≢◌, ℕ, ◌<◌, ◌≤◌, ◌^◌, suc, zero, Bool, true, false, cond, get_or, subst, List, [], ◌∷◌, length, refl, sym, ap, ◌∙◌, arith, rules, pos, neg_ℤ, ℤ, inl, inr, lt-ltb, ltb-true, le-leb, leb-true, ◌&&◌, ◌==◌, not, nat_le, nat_lt, Some, None, Result, Ok, Err, IsUtf8}
use Rattle.plain_values.proofs.Common.{list_all, list_any, OkIff, result_ok, IsAscii, is_utf8, ParsesSigned, IsUtf8-from_ascii, IsUtf8-from_is_utf8, is_utf8-from_IsUtf8, IsNumeralModel, numerals_by_fold, parse_signed_plain, parse_signed_minus, cases_Bool, eqb-true, cond-true, nat_tests, is_text, first_holds, second_holds}
use mir.Syntax.{w64}
use Rattle.grammar_specs.specs.Common.{is_digit, digits_value, minus}
use Rattle.plain_values.specs.Text.{text_of}
use Rattle.plain_values.specs.declared.text.TextFault.TheVariants as fault
use Rattle.csv_specs.specs.Fields.{are_digits, number_below_zero, number_in, number_of_digits, text_in}

own : IsNumeralModel (λ ds. list_all is_digit ds ≡ true) (digits_value 0)
own = numerals_by_fold _ (search rules) digits_value (search rules)

minus_is : (n : ℕ) → neg_ℤ (pos n) ≡ minus n
minus_is zero = refl
minus_is (suc n) = refl

not_minus : (b : ℕ) → (b == 45) ≡ false → b ≢ 45
not_minus b e = grind (arith, nat_tests)

some_bytes : (ds : List ℕ) → 0 < length ds → not (length ds == 0) ≡ true
some_bytes ds h = grind (arith, nat_tests)

length_of : (ds : List ℕ) → not (length ds == 0) ≡ true → 0 < length ds
length_of [] h = cc
length_of (b ∷ ds) h = omega arith

-- what is there only under a test
module _ {A : Type 0} where
  refused : (t : Bool) (x y : A) → (t ≡ true → ⊥) → cond t x y ≡ y
  refused true x y h = absurd (h refl)
  refused false x y h = refl

both : (a b c : Bool) → a ≡ true → b ≡ true → c ≡ true → ((a && b) && c) ≡ true
both a b c e f g = rw (e, f, g) refl

plain : {E : Type 0} (ds : List ℕ) (r : Result ℤ E) → OkIff r ((list_all is_digit ds ≡ true) × (0 < length ds) × (digits_value 0 ds < 2 ^ 63)) (pos (digits_value 0 ds))
    → result_ok r ≡ number_of_digits ds
plain ds (Ok z) h = ap Some h.1 ∙ sym (cond-true _ _ _ (both _ _ _ (some_bytes ds h.0.1) h.0.0 (lt-ltb (digits_value 0 ds) (2 ^ 63) h.0.2)))
plain ds (Err x) h = sym (refused _ _ _ (λ t.
    let all = first_holds (are_digits ds) _ t in
    h (second_holds _ (list_all is_digit ds) all, length_of ds (first_holds _ (list_all is_digit ds) all), ltb-true (digits_value 0 ds) (2 ^ 63) (second_holds (are_digits ds) _ t))))

negative : {E : Type 0} (ds : List ℕ) (r : Result ℤ E) → OkIff r ((list_all is_digit ds ≡ true) × (0 < length ds) × (digits_value 0 ds ≤ 2 ^ 63)) (neg_ℤ (pos (digits_value 0 ds)))
    → result_ok r ≡ number_below_zero ds
negative ds (Ok z) h = ap Some (h.1 ∙ minus_is (digits_value 0 ds)) ∙ sym (cond-true _ _ _ (both _ _ _ (some_bytes ds h.0.1) h.0.0 (le-leb (digits_value 0 ds) (2 ^ 63) h.0.2)))
negative ds (Err x) h = sym (refused _ _ _ (λ t.
    let all = first_holds (are_digits ds) _ t in
    h (second_holds _ (list_all is_digit ds) all, length_of ds (first_holds _ (list_all is_digit ds) all), leb-true (digits_value 0 ds) (2 ^ 63) (second_holds (are_digits ds) _ t))))

-- what `parse` gives is the number of the field, which does not begin with a plus sign
pub parsed : {E : Type 0} (b : ℕ) (ds : List ℕ) (r : Result ℤ E) → ParsesSigned w64 10 (b ∷ ds) r → b ≢ 43 → result_ok r ≡ number_in (b ∷ ds)
parsed b ds r p no_plus = elim (cases_Bool (b == 45)) [
  | inl sign ↦ negative ds r (parse_signed_minus own w64 (b ∷ ds) r p (eqb-true b 45 sign)) ∙ sym (cond-true (b == 45) (number_below_zero ds) _ sign)
  | inr unsigned ↦ plain (b ∷ ds) r (parse_signed_plain own w64 (b ∷ ds) r p no_plus (not_minus b unsigned)) ∙ sym (rw unsigned refl)
]

ascii_digit : (b : ℕ) → is_digit b ≡ true → b < 128
ascii_digit b e = grind (arith, nat_tests)

ascii_digits : (ds : List ℕ) → list_all is_digit ds ≡ true → IsAscii ds
ascii_digits [] all i = omega arith
ascii_digits (b ∷ ds) all zero = ascii_digit b (first_holds (is_digit b) _ all)
ascii_digits (b ∷ ds) all (suc i) = ascii_digits ds (second_holds (is_digit b) _ all) i

ascii_more : (b : ℕ) (ds : List ℕ) → b < 128 → IsAscii ds → IsAscii (b ∷ ds)
ascii_more b ds h all zero = h
ascii_more b ds h all (suc i) = all i

digits_of : (ds : List ℕ) (t : Bool) → (are_digits ds && t) ≡ true → list_all is_digit ds ≡ true
digits_of ds t h = second_holds (not (length ds == 0)) _ (first_holds (are_digits ds) t h)

not_digits : (ds bytes : List ℕ) (t : Bool) (z : ℤ) → (list_all is_digit ds ≡ true → IsAscii bytes) → (IsUtf8 bytes → ⊥) → cond (are_digits ds && t) (Some z) None ≡ None
not_digits ds bytes t z all h = refused (are_digits ds && t) (Some z) None (λ e. h (IsUtf8-from_ascii bytes (all (digits_of ds t e))))

-- what is no UTF-8 is no number
pub no_number : (field : List ℕ) → (IsUtf8 field → ⊥) → None ≡ number_in field
no_number [] h = refl
no_number (b ∷ ds) h = elim (cases_Bool (b == 45)) [
  | inl sign ↦
      let ascii : b < 128 = omega (arith, eqb-true b 45 sign) in
      sym (cond-true (b == 45) (number_below_zero ds) (number_of_digits (b ∷ ds)) sign
      ∙ not_digits ds (b ∷ ds) (nat_le (digits_value 0 ds) (2 ^ 63)) (minus (digits_value 0 ds)) (λ all. ascii_more b ds ascii (ascii_digits ds all)) h)
  | inr unsigned ↦ sym (rw unsigned (not_digits (b ∷ ds) (b ∷ ds) (nat_lt (digits_value 0 (b ∷ ds)) (2 ^ 63)) (pos (digits_value 0 (b ∷ ds))) (ascii_digits (b ∷ ds)) h))
]

-- what `parse` gives is the number of the field, if the field is not empty and does not begin with a plus sign
pub parsed_field : {E : Type 0} (field text : List ℕ) (r : Result ℤ E) → text ≡ field → ParsesSigned w64 10 text r → 0 < length field → get_or field 0 0 ≢ 43 → result_ok r ≡ number_in field
parsed_field [] text r e p some no_plus = absurd (omega arith)
parsed_field (b ∷ ds) text r e p some no_plus = parsed b ds r (subst (λ t. ParsesSigned w64 10 t r) e p) no_plus

as_text : (u a b : Bool) (field : List ℕ) → u ≡ true → cond (u && (a && not b)) (Some field) None ≡ result_ok (cond a (cond b (Err fault.HasNul) (Ok field)) (Err fault.TooLong))
as_text true true true field e = refl
as_text true true false field e = refl
as_text true false b field e = refl
as_text false a b field e = cc

-- the text of a field that is UTF-8
pub text_is : (field text : List ℕ) → text ≡ field → IsUtf8 field → text_in field ≡ result_ok (text_of text)
text_is field text e u = rw e (as_text (is_utf8 field) (nat_le (length field) 4096) (list_any (λ b. b == 0) field) field (is_utf8-from_IsUtf8 field u))

no_utf8 : (u a : Bool) (field : List ℕ) → (u ≡ true → ⊥) → None ≡ cond (u && a) (Some field) None
no_utf8 true a field h = absurd (h refl)
no_utf8 false a field h = refl

-- what is no UTF-8 is no text
pub no_text : (field : List ℕ) → (IsUtf8 field → ⊥) → None ≡ text_in field
no_text field h = no_utf8 (is_utf8 field) (is_text field) field (λ e. h (IsUtf8-from_is_utf8 field e))

-- a list that is not empty
pub has_some : {A : Type 0} (xs : List A) (b : Bool) → b ≡ (length xs == 0) → b ≡ false → 0 < length xs
has_some [] b e f = cc
has_some (x ∷ xs) b e f = omega arith
