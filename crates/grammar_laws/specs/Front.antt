-- The token in front of a text, found byte by byte, and what follows it.
use Rattle.std.specs.Prelude.{ℕ, ◌<◌, ◌≤◌, Bool, ◌^◌, ◌&&◌, ◌==◌, pos, List, [], ◌∷◌, ◌++◌, length, take, drop, nat_le, nat_lt, take_while, Option, Some, None, option_map, option_and_then, if◌then◌else◌}
use Rattle.plain_values.specs.Bytes.{is_lower, is_name, is_name_byte, is_text}
use Rattle.lens_specs.specs.Predicate.{eq, ne, lt, le, gt, ge}
use Rattle.grammar_specs.specs.Tokens.{Token, word, integer, text, open_paren, close_paren, comma, arrow, operator, is_digit, is_quote, digits_value, minus, Spells, Ends}

-- what is left after the front that passes
abbrev pub drop_while : (ℕ → Bool) → List ℕ → List ℕ
drop_while p [] = []
drop_while p (b ∷ bytes) = if p b then drop_while p bytes else b ∷ bytes

-- a word of at most 32 bytes
abbrev pub word_of : List ℕ → Option Token
word_of w = if nat_le (length w) 32 then Some (word w) else None

-- digits below 2 to the 63
abbrev pub positive_of : List ℕ → Option Token
positive_of digits = if nat_lt (digits_value 0 digits) (2 ^ 63) then Some (integer (pos (digits_value 0 digits))) else None

-- digits behind a minus sign, down to -2 to the 63
abbrev pub negative_of : List ℕ → Option Token
negative_of [] = None
negative_of (b ∷ digits) = if nat_le (digits_value 0 (b ∷ digits)) (2 ^ 63) then Some (integer (minus (digits_value 0 (b ∷ digits)))) else None

-- the operator or the punctuation that these bytes begin with
abbrev pub sign_of : ℕ → List ℕ → Option (Token × List ℕ)
sign_of b [] = if b == 40 then Some (open_paren, []) else if b == 41 then Some (close_paren, []) else if b == 44 then Some (comma, []) else if b == 61 then Some (operator eq, []) else if b == 60 then Some (operator lt, []) else if b == 62 then Some (operator gt, []) else None
sign_of b (c ∷ rest) =
    if c == 61 && b == 33 then Some (operator ne, rest) else if c == 61 && b == 60 then Some (operator le, rest) else if c == 61 && b == 62 then Some (operator ge, rest)
    else if b == 40 then Some (open_paren, c ∷ rest) else if b == 41 then Some (close_paren, c ∷ rest) else if b == 44 then Some (comma, c ∷ rest) else if b == 61 then Some (operator eq, c ∷ rest) else if b == 60 then Some (operator lt, c ∷ rest) else if b == 62 then Some (operator gt, c ∷ rest) else None

-- behind a minus sign: the rest of an arrow, or digits; and what follows
abbrev pub dash_of : List ℕ → Option (Token × List ℕ)
dash_of [] = None
dash_of (c ∷ rest) = if c == 62 then Some (arrow, rest) else option_map (λ t. (t, drop_while is_digit (c ∷ rest))) (negative_of (take_while is_digit (c ∷ rest)))

-- the token at the front that is no text literal, and what follows it
abbrev pub plain_at : ℕ → List ℕ → Option (Token × List ℕ)
plain_at b rest =
    if is_lower b then option_map (λ t. (t, drop_while is_name_byte rest)) (word_of (b ∷ take_while is_name_byte rest))
    else if is_digit b then option_map (λ t. (t, drop_while is_digit rest)) (positive_of (b ∷ take_while is_digit rest))
    else if b == 45 then dash_of rest
    else sign_of b rest

-- with more in front of the value
abbrev pub with_front : List ℕ → List ℕ × List ℕ → List ℕ × List ℕ
with_front bytes q = (bytes ++ q.0, q.1)

-- behind a quote: the value up to the closing quote, and what follows that
abbrev pub quoted_in : List ℕ → Option (List ℕ × List ℕ)
quoted_in [] = None
quoted_in (b ∷ []) = if is_quote b then Some ([], []) else None
quoted_in (b ∷ c ∷ rest) =
    if is_quote b then (if is_quote c then option_map (with_front (39 ∷ [])) (quoted_in rest) else Some ([], c ∷ rest))
    else option_map (with_front (b ∷ [])) (quoted_in (c ∷ rest))

-- the text of this value
abbrev pub text_token : List ℕ → Option Token
text_token value = if is_text value then Some (text value) else None

-- behind a quote: the text, and what follows it
abbrev pub text_at : List ℕ → Option (Token × List ℕ)
text_at rest = option_and_then (λ q. option_map (λ t. (t, q.1)) (text_token q.0)) (quoted_in rest)

-- the token at the front, where no whitespace is, and what follows it
abbrev pub token_at : ℕ → List ℕ → Option (Token × List ℕ)
token_at b rest = if is_quote b then text_at rest else plain_at b rest

-- ---- in front of a text

-- the word that these bytes are
abbrev pub word_at : List ℕ → Option Token
word_at bytes = if is_name bytes then Some (word bytes) else None

-- the token in front of a text that is no text literal, and what follows it
abbrev pub plain_in_front : List ℕ → Option (Token × List ℕ)
plain_in_front [] = None
plain_in_front (b ∷ rest) = plain_at b rest

-- the token in front of a text that begins with no whitespace, and what follows it
abbrev pub token_in_front : List ℕ → Option (Token × List ℕ)
token_in_front [] = None
token_in_front (b ∷ rest) = token_at b rest

-- the token is in front of the bytes, this long, and ends there
abbrev pub IsInFront : Token → ℕ → List ℕ → Type 0
IsInFront token len bytes = (0 < len) × (len ≤ length bytes) × Spells token (take len bytes) × Ends token (drop len bytes)
