-- The fields that stand for values.
use Rattle.std.specs.Prelude.{ℕ, ◌^◌, ◌&&◌, ◌==◌, ℤ, pos, Bool, true, false, not, List, [], ◌∷◌, length, nat_le, nat_lt, nat_eq, codes, if◌then◌else◌, Option, Some, None, option_map}
use Rattle.std.specs.List.{list_all}
use Rattle.std.specs.Cmp.Lexicographic.{pointwise}
use Rattle.std.specs.Fmt.{signed_decimal}
use Rattle.std.specs.Str.{is_utf8}
use Rattle.plain_values.specs.Bytes.{is_text}
use Rattle.plain_values.specs.declared.value.Kind.{Kind}
use Rattle.plain_values.specs.declared.value.Kind.TheVariants as kind
use Rattle.plain_values.specs.declared.value.Value.{Value}
use Rattle.plain_values.specs.declared.value.Value.TheVariants.{Null, Int, Text, Flag}
use Rattle.grammar_specs.specs.Tokens.{is_digit, digits_value, minus}

-- ---- writing

-- the word of a truth value
abbrev pub flag_word : Bool → List ℕ
flag_word true = codes "true"
flag_word false = codes "false"

-- a value as a field: nothing for null, a number in decimal, a text as it is, a truth value by its word
abbrev pub field_of : Value → List ℕ
field_of Null = []
field_of (Int z) = signed_decimal z
field_of (Text bytes) = bytes
field_of (Flag b) = flag_word b

-- ---- reading

-- whether both are the same bytes
abbrev pub is_same : List ℕ → List ℕ → Bool
is_same bytes others = pointwise nat_eq bytes others

-- digits, and at least one
abbrev pub are_digits : List ℕ → Bool
are_digits bytes = not (length bytes == 0) && list_all is_digit bytes

-- the number of digits, if it is within 64 bits
abbrev pub number_of_digits : List ℕ → Option ℤ
number_of_digits bytes = if are_digits bytes && nat_lt (digits_value 0 bytes) (2 ^ 63) then Some (pos (digits_value 0 bytes)) else None

-- the number of digits behind a minus sign, if it is within 64 bits
abbrev pub number_below_zero : List ℕ → Option ℤ
number_below_zero bytes = if are_digits bytes && nat_le (digits_value 0 bytes) (2 ^ 63) then Some (minus (digits_value 0 bytes)) else None

-- the number that a field says: digits, or a minus sign and digits
abbrev pub number_in : List ℕ → Option ℤ
number_in [] = None
number_in (b ∷ bytes) = if b == 45 then number_below_zero bytes else number_of_digits (b ∷ bytes)

-- the text that a field is
abbrev pub text_in : List ℕ → Option (List ℕ)
text_in field = if is_utf8 field && is_text field then Some field else None

-- the truth value whose word the field is
abbrev pub flag_in : List ℕ → Option Bool
flag_in field = if is_same field (codes "true") then Some true else if is_same field (codes "false") then Some false else None

-- the value of this kind that a field stands for, which is never null
abbrev pub value_in : Kind → List ℕ → Option Value
value_in kind.Int field = option_map Int (number_in field)
value_in kind.Text field = option_map Text (text_in field)
value_in kind.Flag field = option_map Flag (flag_in field)
value_in kind.IntOrNull field = option_map Int (number_in field)
value_in kind.TextOrNull field = option_map Text (text_in field)
value_in kind.FlagOrNull field = option_map Flag (flag_in field)
