-- How many parentheses of operands and parts, and "not"s before their operand, are open at each token, that token included.
use Rattle.std.specs.Prelude.{ℕ, suc, List, [], ◌∷◌, ◌++◌, map, nat_lt, Bool, Option, Some, None}
use Rattle.std.specs.List.{list_any}
use Rattle.grammar_specs.specs.Tokens.{Token}
use Rattle.grammar_specs.specs.Written.{Part, literally, compares, compares_columns, is_in, tests_null, negated, grouped, All, only, joined, Pred, alone, either, Operand, bare, enclosed, Expr, named, select, drop, rename, join, Written, table, view, part_tokens, columns_tokens, deps_tokens}

-- n, at each of the tokens
abbrev pub at_each : ℕ → List Token → List ℕ
at_each n tokens = map (λ _. n) tokens

-- in a predicate within n of them
abbrev mutual
  pub part_nesting : ℕ → Part → List ℕ
  part_nesting n (literally b) = n ∷ []
  part_nesting n (compares c op v) = n ∷ n ∷ n ∷ []
  part_nesting n (compares_columns c op d) = n ∷ n ∷ n ∷ []
  part_nesting n (is_in c vs) = at_each n (part_tokens (is_in c vs))
  part_nesting n (tests_null c) = n ∷ n ∷ n ∷ []
  part_nesting n (negated p) = suc n ∷ part_nesting (suc n) p
  part_nesting n (grouped o) = suc n ∷ (pred_nesting (suc n) o ++ suc n ∷ [])

  pub all_nesting : ℕ → All → List ℕ
  all_nesting n (only p) = part_nesting n p
  all_nesting n (joined a p) = all_nesting n a ++ n ∷ part_nesting n p

  pub pred_nesting : ℕ → Pred → List ℕ
  pred_nesting n (alone a) = all_nesting n a
  pred_nesting n (either o a) = pred_nesting n o ++ n ∷ all_nesting n a

-- in an expression within n of them
abbrev mutual
  pub operand_nesting : ℕ → Operand → List ℕ
  operand_nesting n (bare c) = n ∷ []
  operand_nesting n (enclosed e) = suc n ∷ (expr_nesting (suc n) e ++ suc n ∷ [])

  pub expr_nesting : ℕ → Expr → List ℕ
  expr_nesting n (named c) = n ∷ []
  expr_nesting n (select o p) = n ∷ n ∷ (operand_nesting n o ++ n ∷ pred_nesting n p)
  expr_nesting n (drop c by v o) = n ∷ n ∷ n ∷ n ∷ n ∷ (map (λ _. n) by ++ n ∷ n ∷ n ∷ n ∷ operand_nesting n o)
  expr_nesting n (rename c d o) = n ∷ n ∷ n ∷ n ∷ n ∷ operand_nesting n o
  expr_nesting n (join k o q) = n ∷ (operand_nesting n o ++ n ∷ operand_nesting n q)

-- in the predicate behind "where"
abbrev pub where_nesting : Option Pred → List ℕ
where_nesting None = []
where_nesting (Some p) = 0 ∷ pred_nesting 0 p

-- at each token of the definition
abbrev pub nesting : Written → List ℕ
nesting (table name columns deps condition) = 0 ∷ 0 ∷ 0 ∷ (at_each 0 (columns_tokens columns) ++ 0 ∷ (at_each 0 (deps_tokens deps) ++ where_nesting condition))
nesting (view name e) = 0 ∷ 0 ∷ 0 ∷ expr_nesting 0 e

-- the most that may be open at once
abbrev pub max_nesting : ℕ
max_nesting = 32

-- more are open at one of the tokens
abbrev pub is_too_deep : List ℕ → Bool
is_too_deep counts = list_any (λ n. nat_lt max_nesting n) counts
