-- The text that a definition is printed as: the tree that is written for it, and the bytes of its tokens.
use Rattle.std.specs.Prelude.{ℕ, Bool, true, false, List, [], ◌∷◌, ◌++◌, map, Option, Some, None, if◌then◌else◌}
use Rattle.std.specs.FinMap as map_of
use Rattle.std.specs.Fmt.{signed_decimal}
use Rattle.plain_values.specs.SortedSet as set
use Rattle.lens_specs.specs.Common.{Edge, Formula, truth, falsity, compare, compare_columns, one_of, null_at, negation, all_of, any_of, Formulas, no_formulas, formulas, Predicate}
use Rattle.grammar_specs.specs.Tokens.{Token, word, integer, text, open_paren, close_paren, comma, arrow, operator, op_bytes, quotes_doubled}
use Rattle.grammar_specs.specs.Written as written
use Rattle.grammar_specs.specs.Written.{Part, literally, compares, compares_columns, is_in, tests_null, negated, grouped, All, only, joined, Pred, alone, either, Operand, bare, enclosed, Dep, Written, written_tokens, pred_tokens}
use Rattle.grammar_specs.specs.Meaning.{Expr, named, select, drop, rename, join, Definition, table, view}

-- ---- the tree of a predicate

-- Parts stand for what an "and" or a "not" has as members: a conjunction or a disjunction stands there in parentheses. Members of an "or" stand without, but for a disjunction.
abbrev mutual
  pub part_of : Formula → Part
  part_of truth = literally true
  part_of falsity = literally false
  part_of (compare c op v) = compares c op v
  part_of (compare_columns c op d) = compares_columns c op d
  part_of (one_of c vs) = is_in c vs
  part_of (null_at c) = tests_null c
  part_of (negation f) = negated (part_of f)
  part_of (all_of fs) = grouped (alone (all_parts fs))
  part_of (any_of fs) = grouped (any_alls fs)

  -- the members joined by "and"
  pub all_parts : Formulas → All
  all_parts no_formulas = only (literally true)
  all_parts (formulas f fs) = more_parts (only (part_of f)) fs

  pub more_parts : All → Formulas → All
  more_parts a no_formulas = a
  more_parts a (formulas f fs) = more_parts (joined a (part_of f)) fs

  -- a member of an "or"
  pub all_of_formula : Formula → All
  all_of_formula truth = only (literally true)
  all_of_formula falsity = only (literally false)
  all_of_formula (compare c op v) = only (compares c op v)
  all_of_formula (compare_columns c op d) = only (compares_columns c op d)
  all_of_formula (one_of c vs) = only (is_in c vs)
  all_of_formula (null_at c) = only (tests_null c)
  all_of_formula (negation f) = only (negated (part_of f))
  all_of_formula (all_of fs) = all_parts fs
  all_of_formula (any_of fs) = only (grouped (any_alls fs))

  -- the members joined by "or"
  pub any_alls : Formulas → Pred
  any_alls no_formulas = alone (only (literally false))
  any_alls (formulas f fs) = more_alls (alone (all_of_formula f)) fs

  pub more_alls : Pred → Formulas → Pred
  more_alls o no_formulas = o
  more_alls o (formulas f fs) = more_alls (either o (all_of_formula f)) fs

-- a formula by itself: no parentheses around it
abbrev pub pred_of : Formula → Pred
pred_of truth = alone (only (literally true))
pred_of falsity = alone (only (literally false))
pred_of (compare c op v) = alone (only (compares c op v))
pred_of (compare_columns c op d) = alone (only (compares_columns c op d))
pred_of (one_of c vs) = alone (only (is_in c vs))
pred_of (null_at c) = alone (only (tests_null c))
pred_of (negation f) = alone (only (negated (part_of f)))
pred_of (all_of fs) = alone (all_parts fs)
pred_of (any_of fs) = any_alls fs

-- conjuncts joined by "and"
abbrev pub joined_parts : All → Predicate → All
joined_parts a [] = a
joined_parts a (f ∷ fs) = joined_parts (joined a (part_of f)) fs

-- one conjunct by itself, or several joined by "and"
abbrev pub predicate_written : Predicate → Pred
predicate_written [] = alone (only (literally true))
predicate_written (f ∷ []) = pred_of f
predicate_written (f ∷ g ∷ fs) = alone (joined_parts (only (part_of f)) (g ∷ fs))

-- ---- the tree of a definition

-- a name is bare, every other operand is in parentheses
abbrev pub operand_of : Expr → Operand
operand_of (named n) = bare n
operand_of (select P e) = enclosed (written.select (operand_of e) (predicate_written P))
operand_of (drop A by v e) = enclosed (written.drop A (set.items by) v (operand_of e))
operand_of (rename A B e) = enclosed (written.rename A B (operand_of e))
operand_of (join k e f) = enclosed (written.join k (operand_of e) (operand_of f))

-- an expression by itself
abbrev pub expr_written : Expr → written.Expr
expr_written (named n) = written.named n
expr_written (select P e) = written.select (operand_of e) (predicate_written P)
expr_written (drop A by v e) = written.drop A (set.items by) v (operand_of e)
expr_written (rename A B e) = written.rename A B (operand_of e)
expr_written (join k e f) = written.join k (operand_of e) (operand_of f)

-- the names of a side in rising order
abbrev pub dep_written : Edge → Dep
dep_written e = (set.items e.left, set.items e.right)

-- no "where" for the empty list of conjuncts
abbrev pub condition_written : Predicate → Option Pred
condition_written [] = None
condition_written (f ∷ fs) = Some (predicate_written (f ∷ fs))

-- columns in rising order, dependencies in their own
abbrev pub definition_written : Definition → Written
definition_written (table name U F P) = written.table name (map_of.entries U) (map dep_written F) (condition_written P)
definition_written (view name e) = written.view name (expr_written e)

-- ---- bytes

-- a token's bytes, with a number in decimal without leading zeros
abbrev pub token_bytes : Token → List ℕ
token_bytes (word w) = w
token_bytes (integer z) = signed_decimal z
token_bytes (text value) = 39 ∷ (quotes_doubled value ++ 39 ∷ [])
token_bytes open_paren = 40 ∷ []
token_bytes close_paren = 41 ∷ []
token_bytes comma = 44 ∷ []
token_bytes arrow = 45 ∷ 62 ∷ []
token_bytes (operator op) = op_bytes op

-- whether no space follows it
abbrev pub opens : Token → Bool
opens open_paren = true
opens other = false

-- whether no space precedes it
abbrev pub closes : Token → Bool
closes close_paren = true
closes comma = true
closes other = false

-- the whitespace between two tokens
abbrev pub gap : Token → Token → List ℕ
gap s t = if opens s then [] else (if closes t then [] else 32 ∷ [])

-- one space between tokens, but none after "(" and none before ")" and ","
abbrev pub spaced : List Token → List ℕ
spaced [] = []
spaced (t ∷ []) = token_bytes t
spaced (s ∷ t ∷ ts) = token_bytes s ++ gap s t ++ spaced (t ∷ ts)

-- the text of a definition
abbrev pub printed : Definition → List ℕ
printed d = spaced (written_tokens (definition_written d))

-- the text of a formula by itself
abbrev pub printed_formula : Formula → List ℕ
printed_formula f = spaced (pred_tokens (pred_of f))
