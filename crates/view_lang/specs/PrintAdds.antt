-- What is added to the text of a printer.
use Rattle.std.specs.Prelude.{◌≡◌, ℕ, zero, suc, Bool, List, [], ◌∷◌, ◌++◌, string_bytes, if◌then◌else◌}
use Rattle.grammar_specs.specs.Tokens.{Token}
use Rattle.grammar_specs.specs.Printing.{token_bytes, opens, closes}
use Rattle.view_lang.specs.declared.printing.printer.Printer.{Printer}

-- the whitespace before a token that does not close: a space, unless it is glued to the last
abbrev pub blank : Bool → List ℕ
blank glued = if glued then [] else 32 ∷ []

-- the whitespace before a token
abbrev pub before : Bool → Token → List ℕ
before glued t = if closes t then [] else blank glued

-- the bytes of the tokens, each after its whitespace
abbrev pub bytes_after : Bool → List Token → List ℕ
bytes_after glued [] = []
bytes_after glued (t ∷ ts) = before glued t ++ token_bytes t ++ bytes_after (opens t) ts

-- whether the next token is glued to the last of these
abbrev pub glued_after : Bool → List Token → Bool
glued_after glued [] = glued
glued_after glued (t ∷ ts) = glued_after (opens t) ts

-- the bytes were added at the end of the text, and the next token is glued to them or not
pub record Puts (old new : Printer) (bytes : List ℕ) (glued : Bool) : Type 0 where
  pub text : string_bytes new.text ≡ string_bytes old.text ++ bytes
  pub next : new.glued ≡ glued

-- the tokens were added at the end of the text
pub record Adds (old new : Printer) (tokens : List Token) : Type 0 where
  pub text : string_bytes new.text ≡ string_bytes old.text ++ bytes_after old.glued tokens
  pub next : new.glued ≡ glued_after old.glued tokens

-- the token before every item but the first
abbrev pub before_item : ℕ → Token → List Token
before_item zero t = []
before_item (suc i) t = t ∷ []
