-- Tokens printed with blanks between them stand in the text.
use Rattle.std.proofs.Common.{◌≡◌, ℕ, ◌+◌, Bool, true, false, cond, List, [], ◌∷◌, ◌++◌, length, refl, sym, ap, subst, ◌∙◌, append_assoc, append-nil}
use Rattle.plain_values.proofs.Common.{and_parts, true≢false}
use Rattle.lens_specs.specs.Common.{eq}
use Rattle.grammar_specs.specs.Common.{Token, open_paren, close_paren, comma, operator, goes_on, Ends, Placed, tokens_in, AreBlank, Stand, IsText, token_bytes, opens, closes, gap, spaced}
use Rattle.grammar_laws.proofs.PrintTokens.{are_printable, printable_spells}

-- ---- where a token ends

-- no token goes on with a blank, with ")" or with ","
stops : (t : Token) → (goes_on t 32 ≡ false) × (goes_on t 41 ≡ false) × (goes_on t 44 ≡ false)
stops (operator eq) = (refl, refl, refl)
stops (operator other) = (refl, refl, refl)
stops other = (refl, refl, refl)

-- "(" ends before anything
opens_ends : (t : Token) (bytes : List ℕ) → opens t ≡ true → Ends t bytes
opens_ends t [] h = tt
opens_ends open_paren (b ∷ bytes) h = refl
opens_ends other (b ∷ bytes) h = absurd (true≢false (sym h))

-- the first token's bytes are in front
front_bytes : (t : Token) (ts : List Token) → (rest : List ℕ) × (spaced (t ∷ ts) ≡ token_bytes t ++ rest)
front_bytes t [] = ([], sym (append-nil (token_bytes t)))
front_bytes t (u ∷ ts) = (gap t u ++ spaced (u ∷ ts), append_assoc (token_bytes t) (gap t u) (spaced (u ∷ ts)))

-- a token ends at what is printed behind it
gap_ends : (s t : Token) (ts : List Token) (opens_it : Bool) → opens s ≡ opens_it → Ends s (cond opens_it [] (cond (closes t) [] (32 ∷ [])) ++ spaced (t ∷ ts))
gap_ends s t ts true e = opens_ends s (spaced (t ∷ ts)) e
gap_ends s close_paren ts false e = subst (Ends s) (sym (front_bytes close_paren ts).1) (stops s).1
gap_ends s comma ts false e = subst (Ends s) (sym (front_bytes comma ts).1) (stops s).2
gap_ends s other ts false e = (stops s).0

either_blank : (b c : Bool) → AreBlank (cond b [] (cond c [] (32 ∷ [])))
either_blank true c = refl
either_blank false true = refl
either_blank false false = refl

gap_blank : (s t : Token) → AreBlank (gap s t)
gap_blank s t = either_blank (opens s) (closes t)

-- ---- the tokens stand

-- they stand behind the blanks, up to the end
record Placing (at : ℕ) (bytes : List ℕ) (ts : List Token) : Type 0 where
  placed : Placed
  tokens : tokens_in placed ≡ ts
  stand : Stand at bytes placed []

spaced_stands : (t : Token) (ts : List Token) (at : ℕ) (blanks : List ℕ) → AreBlank blanks → are_printable (t ∷ ts) ≡ true → Placing at (blanks ++ spaced (t ∷ ts)) (t ∷ ts)
spaced_stands t [] at blanks blank h = record {
  placed = (at + length blanks, t) ∷ [];
  tokens = refl;
  stand = (blanks, token_bytes t, [], sym (append-nil (blanks ++ token_bytes t)), blank, refl, printable_spells t (and_parts _ _ h).0, tt, refl);
}
spaced_stands t (u ∷ ts) at blanks blank h =
    let both = and_parts _ _ h in
    let rest = spaced_stands u ts (at + length blanks + length (token_bytes t)) (gap t u) (gap_blank t u) both.1 in
    record {
      placed = (at + length blanks, t) ∷ rest.placed;
      tokens = ap (λ l. t ∷ l) rest.tokens;
      stand = (
        blanks,
        token_bytes t,
        gap t u ++ spaced (u ∷ ts),
        ap (λ x. blanks ++ x) (append_assoc (token_bytes t) (gap t u) (spaced (u ∷ ts))) ∙ sym (append_assoc blanks (token_bytes t) (gap t u ++ spaced (u ∷ ts))),
        blank,
        refl,
        printable_spells t both.0,
        gap_ends t u ts (opens t) refl,
        rest.stand,
      );
    }

-- printed tokens are a text of these tokens
pub spaced_text : (ts : List Token) → are_printable ts ≡ true → (placed : Placed) × (tokens_in placed ≡ ts) × IsText placed (spaced ts)
spaced_text [] h = ([], refl, ([], refl, refl))
spaced_text (t ∷ ts) h =
    let is = spaced_stands t ts 0 [] refl h in
    (is.placed, is.tokens, ([], is.stand, refl))
