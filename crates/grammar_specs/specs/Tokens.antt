-- The tokens of the definition language, and the bytes of each.
use Rattle.std.specs.Prelude.{◌≡◌, ◌≢◌, ◌⊎◌, ℕ, suc, zero, ◌+◌, ◌*◌, ◌-◌, ◌^◌, ◌&&◌, ◌||◌, ◌==◌, ℤ, pos, negsuc, Bool, true, false, not, List, [], ◌∷◌, ◌++◌, nat_le, nat_lt, nat_eq, codes, if◌then◌else◌}
use Rattle.std.specs.List.{list_any, list_all}
use Rattle.std.specs.Cmp.Lexicographic.{pointwise}
use Rattle.plain_values.specs.Bytes.{is_name_byte, is_name, is_text}
use Rattle.lens_specs.specs.Common.{Name, Op, eq, ne, lt, le, gt, ge}

-- a word, an integer, a text, an operator or punctuation
pub data Token : Type 0 where
  word : List ℕ → Token
  integer : ℤ → Token
  text : List ℕ → Token
  open_paren : Token
  close_paren : Token
  comma : Token
  arrow : Token
  operator : Op → Token

-- words that cannot be names
abbrev pub is_reserved : List ℕ → Bool
is_reserved w = list_any (λ r. pointwise nat_eq r w)
    (codes "table" ∷ codes "view" ∷ codes "select" ∷ codes "from" ∷ codes "where" ∷ codes "drop" ∷ codes "determined" ∷ codes "by" ∷ codes "join_dl"
    ∷ codes "with" ∷ codes "int" ∷ codes "text" ∷ codes "bool" ∷ codes "and" ∷ codes "or" ∷ codes "not" ∷ codes "in" ∷ codes "true" ∷ codes "false"
    ∷ codes "rename" ∷ codes "to" ∷ codes "null" ∷ codes "is" ∷ codes "join_dr" ∷ codes "join_both" ∷ codes "as" ∷ [])

-- a name that is none of the reserved words
abbrev pub is_free_name : Name → Bool
is_free_name name = is_name name && not (is_reserved name)

-- ---- bytes

-- a space, a tab, a line feed or a carriage return
abbrev pub is_blank : ℕ → Bool
is_blank b = b == 32 || b == 9 || b == 10 || b == 13

-- a decimal digit
abbrev pub is_digit : ℕ → Bool
is_digit b = nat_le 48 b && nat_le b 57

-- a quote
abbrev pub is_quote : ℕ → Bool
is_quote b = b == 39

-- the number that the digits give after a number
abbrev pub digits_value : ℕ → List ℕ → ℕ
digits_value n [] = n
digits_value n (b ∷ bytes) = digits_value (10 * n + (b - 48)) bytes

-- the operator of a comparison
abbrev pub op_bytes : Op → List ℕ
op_bytes eq = codes "="
op_bytes ne = codes "!="
op_bytes lt = codes "<"
op_bytes le = codes "<="
op_bytes gt = codes ">"
op_bytes ge = codes ">="

-- the number below zero
abbrev pub minus : ℕ → ℤ
minus zero = pos 0
minus (suc n) = negsuc n

-- one or more digits
abbrev pub AreDigits : List ℕ → Type 0
AreDigits bytes = (bytes ≢ []) × (list_all is_digit bytes ≡ true)

-- the bytes of an integer: digits, or a minus sign and digits, in the range of 64 bits
abbrev pub SpellsInteger : ℤ → List ℕ → Type 0
SpellsInteger z bytes =
    (AreDigits bytes × (z ≡ pos (digits_value 0 bytes)) × (nat_lt (digits_value 0 bytes) (2 ^ 63) ≡ true))
    ⊎ ((digits : List ℕ) × (bytes ≡ 45 ∷ digits) × AreDigits digits × (z ≡ minus (digits_value 0 digits)) × (nat_le (digits_value 0 digits) (2 ^ 63) ≡ true))

-- each quote written twice
abbrev pub quotes_doubled : List ℕ → List ℕ
quotes_doubled [] = []
quotes_doubled (b ∷ bytes) = if is_quote b then b ∷ b ∷ quotes_doubled bytes else b ∷ quotes_doubled bytes

-- ---- the bytes of a token

-- a token's bytes, without whitespace
abbrev pub Spells : Token → List ℕ → Type 0
Spells (word w) bytes = (bytes ≡ w) × (is_name w ≡ true)
Spells (integer z) bytes = SpellsInteger z bytes
Spells (text value) bytes = (bytes ≡ 39 ∷ (quotes_doubled value ++ 39 ∷ [])) × (is_text value ≡ true)
Spells open_paren bytes = bytes ≡ codes "("
Spells close_paren bytes = bytes ≡ codes ")"
Spells comma bytes = bytes ≡ codes ","
Spells arrow bytes = bytes ≡ codes "->"
Spells (operator op) bytes = bytes ≡ op_bytes op

-- whether the token would go on with this byte
abbrev pub goes_on : Token → ℕ → Bool
goes_on (word w) b = is_name_byte b
goes_on (integer z) b = is_digit b
goes_on (text value) b = is_quote b
goes_on open_paren b = false
goes_on close_paren b = false
goes_on comma b = false
goes_on arrow b = false
goes_on (operator eq) b = false
goes_on (operator ne) b = false
goes_on (operator lt) b = b == 61
goes_on (operator le) b = false
goes_on (operator gt) b = b == 61
goes_on (operator ge) b = false

-- what follows does not lengthen the token
abbrev pub Ends : Token → List ℕ → Type 0
Ends token [] = Unit {0}
Ends token (b ∷ rest) = goes_on token b ≡ false
