-- What a token of the code stands for, and the token in front of a text.
use Rattle.std.specs.Prelude.{◌≡◌, ℕ, ◌<◌, ◌≤◌, ◌==◌, ◌&&◌, ◌||◌, Bool, false, List, [], ◌∷◌, length, drop, Option, None, option_map, IfSome, if◌then◌else◌}
use Rattle.std.specs.List.{list_all}
use Rattle.plain_values.specs.Bytes.{is_lower}
use Rattle.grammar_specs.specs.Tokens.{Token, word, integer, open_paren, close_paren, comma, arrow, operator, is_digit, Spells, Ends}
use Rattle.grammar_specs.specs.Tokens as tokens
use Rattle.grammar_laws.specs.Front.{sign_of, positive_of, negative_of}
use Rattle.view_lang.specs.declared.parsing.token.Token as code
use Rattle.view_lang.specs.declared.parsing.token.Token.TheVariants as token
use Rattle.view_lang.specs.declared.parsing.token.Sign.{Sign}
use Rattle.view_lang.specs.declared.parsing.token.Sign.TheVariants as sign
use Rattle.grammar_laws.specs.Tests.{is_open, is_close, is_comma, is_arrow, is_equals}
use Rattle.lens_pred.specs.Op.{op_view}

-- what a token of the code stands for
abbrev pub token_view : code.Token → Token
token_view (token.Word w) = word w
token_view (token.Integer z) = integer z
token_view (token.Text bytes) = tokens.text bytes
token_view token.OpenParen = open_paren
token_view token.CloseParen = close_paren
token_view token.Comma = comma
token_view token.Arrow = arrow
token_view (token.Operator op) = operator (op_view op)

-- whether a token is this sign
abbrev pub is_sign : Sign → Token → Bool
is_sign sign.Open = is_open
is_sign sign.Close = is_close
is_sign sign.Comma = is_comma
is_sign sign.Arrow = is_arrow
is_sign sign.Equals = is_equals

-- ---- the token in front of a text, with its length

-- the token that was found in front of the text, and what follows it
abbrev pub front_of : List ℕ → Option (code.Token × ℕ) → Option (Token × List ℕ)
front_of text found = option_map (λ f. (token_view f.0, drop f.1 text)) found

-- what was found is what stands in front of the text, and some of the text
abbrev pub IsFront : (List ℕ → Option (Token × List ℕ)) → List ℕ → Option (code.Token × ℕ) → Type 0
IsFront in_front text found = (front_of text found ≡ in_front text) × IfSome found (λ f. (0 < f.1) × (f.1 ≤ length text))

-- the operator or the punctuation in front of a text, and what follows it
abbrev pub sign_in_front : List ℕ → Option (Token × List ℕ)
sign_in_front [] = None
sign_in_front (b ∷ rest) = sign_of b rest

-- ---- words and integers

-- whether the text begins with the first letter of a word
abbrev pub begins_word : List ℕ → Bool
begins_word [] = false
begins_word (b ∷ rest) = is_lower b

-- whether the text begins with a digit or a minus sign
abbrev pub begins_integer : List ℕ → Bool
begins_integer [] = false
begins_integer (b ∷ rest) = is_digit b || b == 45

-- whether the text begins with `->`
abbrev pub begins_arrow : List ℕ → Bool
begins_arrow (b ∷ c ∷ rest) = b == 45 && c == 62
begins_arrow other = false

-- digits, or a minus sign and maybe digits
abbrev pub is_integer_text : List ℕ → Bool
is_integer_text [] = false
is_integer_text (b ∷ digits) = (is_digit b || b == 45) && list_all is_digit digits

-- the integer that these bytes are
abbrev pub integer_at : List ℕ → Option Token
integer_at [] = None
integer_at (b ∷ digits) = if is_digit b then positive_of (b ∷ digits) else negative_of digits
