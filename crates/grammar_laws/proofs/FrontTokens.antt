-- What is found in front of a text is the token that stands there.
use Rattle.std.proofs.Math.Seq.{drop-append_seam}
use Rattle.std.proofs.Common.{false, ◌≡◌, ℕ, ◌<◌, true, List, [], ◌∷◌, ◌++◌, length, drop, refl, ap, ◌∙◌, arith, inl, inr, None}
use Rattle.plain_values.proofs.Common.{none-some}
use Rattle.lens_specs.specs.Common.{eq}
use Rattle.grammar_specs.specs.Common.{Token, word, integer, operator, Spells, NoToken}
use Rattle.grammar_specs.specs.Tokens as tokens
use Rattle.grammar_laws.specs.Front.{token_in_front}
use Rattle.grammar_laws.proofs.Longest.{token_front}

-- ---- a token has a byte

pub spelled_some : (t : Token) (bytes : List ℕ) → Spells t bytes → 0 < length bytes
spelled_some (word []) bytes h = let none : false ≡ true = h.1 in cc
spelled_some (word (b ∷ w)) bytes h = omega (arith, ap length h.0)
spelled_some (integer z) [] (inl h) = absurd (h.0.0 refl)
spelled_some (integer z) (b ∷ bytes) (inl h) = omega arith
spelled_some (integer z) bytes (inr h) = omega (arith, ap length h.1)
spelled_some (tokens.text value) bytes h = omega (arith, ap length h.0)
spelled_some (operator eq) bytes h = omega (arith, ap length h)
spelled_some (operator other) bytes h = omega (arith, ap length h)
spelled_some other bytes h = omega (arith, ap length h)

pub drop_front : (xs ys : List ℕ) → drop (length xs) (xs ++ ys) ≡ ys
drop_front xs ys = drop-append_seam xs ys

-- ---- the token that stands there

pub no_token : (bytes : List ℕ) → None ≡ token_in_front bytes → NoToken bytes
no_token bytes none t spelling rest shape spells ends =
    let found = token_front t spelling rest spells ends in
    none-some (t, rest) (none ∙ ap token_in_front (shape ∙ ap (λ x. x ++ rest) found.2) ∙ found.3)
