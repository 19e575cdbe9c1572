-- The tokens of a text and their offsets: the longest token at each place, with whitespace between them.
use Rattle.std.specs.Prelude.{◌≡◌, ℕ, ◌+◌, true, false, List, [], ◌∷◌, ◌++◌, map, length}
use Rattle.std.specs.List.{list_all}
use Rattle.grammar_specs.specs.Tokens.{Token, Spells, Ends, is_blank}

-- tokens, each with the offset of its first byte
abbrev pub Placed : Type 0
Placed = List (ℕ × Token)

-- the tokens without their offsets
abbrev pub tokens_in : Placed → List Token
tokens_in placed = map (λ p. p.1) placed

-- all of them are whitespace
abbrev pub AreBlank : List ℕ → Type 0
AreBlank bytes = list_all is_blank bytes ≡ true

-- The bytes, of which the first has the offset at, are these tokens at their offsets, and then what is left.
abbrev pub Stand : ℕ → List ℕ → Placed → List ℕ → Type 0
Stand at bytes [] left = bytes ≡ left
Stand at bytes (p ∷ placed) left =
    (blanks spelling rest : List ℕ) × (bytes ≡ blanks ++ spelling ++ rest) × AreBlank blanks × (p.0 ≡ at + length blanks) × Spells p.1 spelling × Ends p.1 rest
    × Stand (at + length blanks + length spelling) rest placed left

-- no token is in front
abbrev pub NoToken : List ℕ → Type 0
NoToken bytes = (token : Token) (spelling rest : List ℕ) → bytes ≡ spelling ++ rest → Spells token spelling → Ends token rest → ⊥

-- The text is these tokens at their offsets, and then whitespace up to its end.
abbrev pub IsText : Placed → List ℕ → Type 0
IsText placed text = (left : List ℕ) × Stand 0 text placed left × AreBlank left

-- The text is these tokens at their offsets, and then at this offset comes something that is no token.
abbrev pub GoesWrong : Placed → ℕ → List ℕ → Type 0
GoesWrong placed at text =
    (before blanks : List ℕ) × (b : ℕ) × (rest : List ℕ) × (text ≡ before ++ blanks ++ b ∷ rest) × (at ≡ length before + length blanks)
    × Stand 0 text placed (blanks ++ b ∷ rest) × AreBlank blanks × (is_blank b ≡ false) × NoToken (b ∷ rest)
