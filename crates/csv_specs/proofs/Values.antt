-- The field of a value stands for it.
use Rattle.std.proofs.Common.{◌≡◌, ◌^◌, ℕ, Bool, true, false, List, [], ◌∷◌, length, refl, sym, ap, ◌∙◌, arith, inl, inr, pos, negsuc, ℤ, ◌&&◌, ◌==◌, not, nat_le, nat_lt, Some, None, option_map}
use Rattle.plain_values.proofs.Common.{signed_decimal, is_utf8, and_from, and_parts, true≢false, cond-true, nat_tests, is_text, fits, is_nullable}
use Rattle.plain_values.specs.declared.value.Kind.{Kind}
use Rattle.plain_values.specs.declared.value.Kind.TheVariants as kind
use Rattle.plain_values.specs.declared.value.Value.{Value}
use Rattle.plain_values.specs.declared.value.Value.TheVariants.{Null, Int, Text, Flag}
use Rattle.grammar_specs.specs.Common.{AreDigits, SpellsInteger, digits_value, is_digit, minus, is_literal}
use Rattle.grammar_laws.proofs.PrintNumbers.{decimal_spells, in_range}
use Rattle.csv_specs.specs.Fields.{are_digits, field_of, flag_in, flag_word, number_in, number_of_digits, value_in}
use Rattle.csv_specs.specs.SheetLaws.{is_right}

some_digits : (bytes : List ℕ) → AreDigits bytes → are_digits bytes ≡ true
some_digits [] h = absurd (h.0 refl)
some_digits (b ∷ bytes) h =
    let some : not (length (b ∷ bytes) == 0) ≡ true = grind (arith, nat_tests) in
    and_from _ _ some h.1

no_sign : (b : ℕ) → is_digit b ≡ true → (b == 45) ≡ false
no_sign b h = grind (arith, nat_tests)

unsigned : (bytes : List ℕ) → AreDigits bytes → number_in bytes ≡ number_of_digits bytes
unsigned [] h = absurd (h.0 refl)
unsigned (b ∷ bytes) h = rw (no_sign b (and_parts (is_digit b) _ h.1).0) refl

-- what is spelled is read
spelled : (z : ℤ) (bytes : List ℕ) → SpellsInteger z bytes → number_in bytes ≡ Some z
spelled z bytes (inl h) =
    unsigned bytes h.0
    ∙ cond-true (are_digits bytes && nat_lt (digits_value 0 bytes) (2 ^ 63)) (Some (pos (digits_value 0 bytes))) None (and_from _ _ (some_digits bytes h.0) h.2)
    ∙ ap (λ n. Some n) (sym h.1)
spelled z bytes (inr h) =
    ap number_in h.1
    ∙ cond-true (are_digits h.0 && nat_le (digits_value 0 h.0) (2 ^ 63)) (Some (minus (digits_value 0 h.0))) None (and_from _ _ (some_digits h.0 h.2) h.4)
    ∙ ap (λ n. Some n) (sym h.3)

in_64_bits : (z : ℤ) → is_literal (Int z) ≡ true → in_range z ≡ true
in_64_bits (pos n) h = h
in_64_bits (negsuc n) h = h

flag_back : (b : Bool) → flag_in (flag_word b) ≡ Some b
flag_back true = refl
flag_back false = refl

-- a value of a kind without null is what its field stands for
pub value_back : (v : Value) (k : Kind) → not (is_nullable k) ≡ true → is_right v ≡ true → fits v k ≡ true → value_in k (field_of v) ≡ Some v
unfolding fits
value_back Null k plain right fit = absurd (true≢false (sym plain ∙ ap not fit))
value_back (Int z) kind.Int plain right fit = ap (option_map Int) (spelled z (signed_decimal z) (decimal_spells z (in_64_bits z right)))
value_back (Int z) kind.Text plain right fit = cc
value_back (Int z) kind.Flag plain right fit = cc
value_back (Int z) kind.IntOrNull plain right fit = cc
value_back (Int z) kind.TextOrNull plain right fit = cc
value_back (Int z) kind.FlagOrNull plain right fit = cc
value_back (Text bytes) kind.Int plain right fit = cc
value_back (Text bytes) kind.Text plain right fit = ap (option_map Text) (cond-true (is_utf8 bytes && is_text bytes) (Some bytes) None right)
value_back (Text bytes) kind.Flag plain right fit = cc
value_back (Text bytes) kind.IntOrNull plain right fit = cc
value_back (Text bytes) kind.TextOrNull plain right fit = cc
value_back (Text bytes) kind.FlagOrNull plain right fit = cc
value_back (Flag b) kind.Int plain right fit = cc
value_back (Flag b) kind.Text plain right fit = cc
value_back (Flag b) kind.Flag plain right fit = ap (option_map Flag) (flag_back b)
value_back (Flag b) kind.IntOrNull plain right fit = cc
value_back (Flag b) kind.TextOrNull plain right fit = cc
value_back (Flag b) kind.FlagOrNull plain right fit = cc
