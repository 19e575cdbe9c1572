-- Which answer a text has: its definition, or the one fault.
use Rattle.std.specs.Prelude.{◌≡◌, ◌⊎◌, ℕ, Bool, true, false, ◌&&◌, List, [], ◌∷◌, ◌++◌, length, take, nat_le, Result, Ok, Err}
use Rattle.std.specs.FinMap as map_of
use Rattle.lens_specs.specs.Predicate.{predicate_nodes, Predicate}
use Rattle.grammar_specs.specs.Tokens.{Token}
use Rattle.grammar_specs.specs.Texts.{Placed, tokens_in, Stand, IsText, GoesWrong}
use Rattle.grammar_specs.specs.Written.{Written, written_tokens, is_definition}
use Rattle.grammar_specs.specs.Meaning.{Expr, named, select, drop, rename, join, Definition, table, view, Says}
use Rattle.grammar_specs.specs.Nesting.{nesting, is_too_deep}

-- what is too large
pub data Limit : Type 0 where
  columns : Limit
  predicate : Limit
  nested : Limit

-- why a text gives no definition
pub data Fault : Type 0 where
  syntax_at : ℕ → Fault
  too_large : Limit → Fault

-- ---- where a text goes wrong

-- A definition begins with these tokens.
abbrev pub Begins : List Token → Type 0
Begins tokens = (w : Written) × (more : List Token) × (is_definition w ≡ true) × (written_tokens w ≡ tokens ++ more)

-- A definition begins with these tokens, in which more than 32 parentheses and "not"s are open at once.
abbrev pub BeginsTooDeep : List Token → Type 0
BeginsTooDeep tokens =
    (w : Written) × (more : List Token) × (is_definition w ≡ true) × (written_tokens w ≡ tokens ++ more) × (is_too_deep (take (length tokens) (nesting w)) ≡ true)

-- A definition begins with the tokens in front, and with them and this one none does.
abbrev pub IsStopped : List Token → Token → Type 0
IsStopped front token = Begins front × (Begins (front ++ token ∷ []) → ⊥)

-- A definition begins with these tokens, and none is spelled by them.
abbrev pub IsUnfinished : List Token → Type 0
IsUnfinished tokens = Begins tokens × ((w : Written) → is_definition w ≡ true → written_tokens w ≡ tokens → ⊥)

-- At this offset is the first thing that is no token, or the first token that no definition can continue with, or the text ends there too early.
abbrev pub Stops : List ℕ → Placed → ℕ → Type 0
Stops text front at =
    ((token : Token) × (left : List ℕ) × Stand 0 text (front ++ (at, token) ∷ []) left × IsStopped (tokens_in front) token)
    ⊎ (GoesWrong front at text × Begins (tokens_in front))
    ⊎ ((at ≡ length text) × IsText front text × IsUnfinished (tokens_in front))

-- The text stops there, and is not too deep before.
abbrev pub IsSyntaxFault : List ℕ → ℕ → Type 0
IsSyntaxFault text at = (front : Placed) × Stops text front at × (BeginsTooDeep (tokens_in front) → ⊥)

-- Some tokens in front of the text are too deep, and up to them a definition continues.
abbrev pub IsNestingFault : List ℕ → Type 0
IsNestingFault text = (front : Placed) × (left : List ℕ) × Stand 0 text front left × BeginsTooDeep (tokens_in front)

-- ---- what is too large

-- 256 nodes at most
abbrev pub is_small : Predicate → Bool
is_small P = nat_le (predicate_nodes P) 256

-- every predicate in it is small
abbrev pub has_small_predicates : Expr → Bool
has_small_predicates (named n) = true
has_small_predicates (select P e) = is_small P && has_small_predicates e
has_small_predicates (drop A by v e) = has_small_predicates e
has_small_predicates (rename A B e) = has_small_predicates e
has_small_predicates (join k e f) = has_small_predicates e && has_small_predicates f

-- a table has 64 columns at most
abbrev pub has_few_columns : Definition → Bool
has_few_columns (table name U F P) = nat_le (map_of.len U) 64
has_few_columns (view name e) = true

-- no predicate has more than 256 nodes
abbrev pub has_few_nodes : Definition → Bool
has_few_nodes (table name U F P) = is_small P
has_few_nodes (view name e) = has_small_predicates e

-- ---- the answer

-- The text has neither fault, and says this definition.
abbrev pub SaysFlat : List ℕ → Definition → Type 0
SaysFlat text d = Says text d × (IsNestingFault text → ⊥)

-- the definition where nothing is too large, or the one fault
abbrev pub Answers : List ℕ → Result Definition Fault → Type 0
Answers text (Ok d) = SaysFlat text d × (has_few_columns d ≡ true) × (has_few_nodes d ≡ true)
Answers text (Err (syntax_at at)) = IsSyntaxFault text at
Answers text (Err (too_large nested)) = IsNestingFault text
Answers text (Err (too_large columns)) = (d : Definition) × SaysFlat text d × (has_few_columns d ≡ false)
Answers text (Err (too_large predicate)) = (d : Definition) × SaysFlat text d × (has_few_columns d ≡ true) × (has_few_nodes d ≡ false)
