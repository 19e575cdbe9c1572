-- How a rule of the grammar reads tokens: one after another, and the next one decides.
use Rattle.std.specs.Prelude.{ℕ, zero, suc, Bool, [], ◌∷◌, length, Option, Some, None, option_map, option_and_then, cond}
use Rattle.grammar_specs.specs.Tokens.{Token}
use Rattle.grammar_specs.specs.Texts.{Placed}

-- what was read and the tokens behind it, the tokens at which the rule stops, or that more is open than may be
pub data Outcome (A : Type 0) : Type 0 where
  read : A → Placed → Outcome A
  stopped : Placed → Outcome A
  too_deep : Outcome A

-- goes on behind what was read
abbrev pub and_then : {A B : Type 0} → Outcome A → (A → Placed → Outcome B) → Outcome B
and_then (read a rest) k = k a rest
and_then (stopped rest) k = stopped rest
and_then too_deep k = too_deep

-- the next token
abbrev pub next : Placed → Option Token
next [] = None
next (p ∷ ps) = Some p.1

-- the tokens behind it
abbrev pub behind : Placed → Placed
behind [] = []
behind (p ∷ ps) = ps

-- the next token if it is one of these, and the tokens behind it
abbrev pub taken : {A : Type 0} → (Token → Option A) → Placed → Option (A × Placed)
taken f ps = option_map (λ a. (a, behind ps)) (option_and_then f (next ps))

-- goes on behind that token, or else before it
abbrev pub picked : {A B : Type 0} → Option (A × Placed) → (A → Placed → Outcome B) → (Placed → Outcome B) → Placed → Outcome B
picked None k e ps = e ps
picked (Some q) k e ps = k q.0 q.1

abbrev pub choose : {A B : Type 0} → (Token → Option A) → (A → Placed → Outcome B) → (Placed → Outcome B) → Placed → Outcome B
choose f k e ps = picked (taken f ps) k e ps

-- the same at a token for which the test gives this
abbrev pub chosen : {A B : Type 0} → Option A → (A → Placed → Outcome B) → (Placed → Outcome B) → ℕ × Token → Placed → Outcome B
chosen o k e p ps = picked (option_map (λ a. (a, ps)) o) k e (p ∷ ps)

-- the token has to be one of these
abbrev pub need : {A B : Type 0} → (Token → Option A) → (A → Placed → Outcome B) → Placed → Outcome B
need f k ps = choose f k stopped ps

-- a token that passes
abbrev pub passing : (Token → Bool) → Token → Option (Unit {0})
passing p t = cond (p t) (Some tt) None

-- as long as the next token is one of these, with so many turns
abbrev pub repeat_within : {A B : Type 0} → ℕ → (Token → Option B) → (A → B → Placed → Outcome A) → A → Placed → Outcome A
repeat_within zero f step a ps = read a ps
repeat_within (suc turns) f step a ps = choose f (λ b qs. and_then (step a b qs) (repeat_within turns f step)) (read a) ps

-- as long as the next token is one of these; each of them takes a turn
abbrev pub repeat : {A B : Type 0} → (Token → Option B) → (A → B → Placed → Outcome A) → A → Placed → Outcome A
repeat f step a ps = repeat_within (length ps) f step a ps
