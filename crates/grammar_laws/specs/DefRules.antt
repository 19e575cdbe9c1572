-- The rules of definitions.
use Rattle.std.specs.Prelude.{ℕ, List, [], ◌∷◌, ◌++◌, codes, Option, Some, None, option_and_then, cond}
use Rattle.plain_values.specs.declared.value.Kind.{Kind}
use Rattle.lens_specs.specs.Common.{Name}
use Rattle.grammar_specs.specs.Tokens.{Token}
use Rattle.grammar_specs.specs.Texts.{Placed}
use Rattle.grammar_specs.specs.Written.{Pred, Dep, Written, table, view, is_column_of}
use Rattle.grammar_laws.specs.Tests.{is_keyword, free_in, kind_in, with_null, is_open, is_close, is_comma, is_arrow, is_equals}
use Rattle.grammar_laws.specs.Steps.{Outcome, read, stopped, and_then, choose, need, passing, repeat}
use Rattle.grammar_laws.specs.PredRules.{pred}
use Rattle.grammar_laws.specs.ExprRules.{all_names, expr}

-- columns
abbrev pub Columns : Type 0
Columns = List (Name × Kind)

-- a name that is none of these columns
abbrev pub new_name : Columns → Token → Option Name
new_name columns t = option_and_then (λ c. cond (is_column_of columns c) None (Some c)) (free_in t)

-- [ "null" ]
abbrev pub behind_kind : Columns → Name → Kind → Placed → Outcome Columns
behind_kind columns c k = choose (passing (is_keyword (codes "null"))) (λ _. read (columns ++ (c, with_null k) ∷ [])) (read (columns ++ (c, k) ∷ []))

-- NAME kind, behind these columns
abbrev pub column : Columns → Placed → Outcome Columns
column columns = need (new_name columns) (λ c. need kind_in (behind_kind columns c))

abbrev pub next_column : Columns → Unit {0} → Placed → Outcome Columns
next_column columns _ = column columns

-- { "," column }
abbrev pub more_columns : Columns → Placed → Outcome Columns
more_columns = repeat (passing is_comma) next_column

-- column { "," column }
abbrev pub all_columns : Placed → Outcome Columns
all_columns ps = and_then (column [] ps) more_columns

-- "->" NAME { NAME }
abbrev pub behind_left : List Name → Placed → Outcome Dep
behind_left left = need (passing is_arrow) (λ _ qs. and_then (all_names qs) (λ right. read (left, right)))

-- NAME { NAME } "->" NAME { NAME }
abbrev pub dep : Placed → Outcome Dep
dep ps = and_then (all_names ps) behind_left

-- dep, behind these
abbrev pub next_dep : List Dep → Unit {0} → Placed → Outcome (List Dep)
next_dep deps _ ps = and_then (dep ps) (λ d. read (deps ++ d ∷ []))

-- { "," dep }
abbrev pub more_deps : List Dep → Placed → Outcome (List Dep)
more_deps = repeat (passing is_comma) next_dep

-- [ "with" dep { "," dep } ]
abbrev pub all_deps : Placed → Outcome (List Dep)
all_deps = choose (passing (is_keyword (codes "with"))) (λ _ ps. and_then (dep ps) (λ d. more_deps (d ∷ []))) (read [])

-- The others are within the parentheses and "not"s that may be opened.
-- [ "where" pred ]
abbrev pub condition : ℕ → Placed → Outcome (Option Pred)
condition n = choose (passing (is_keyword (codes "where"))) (λ _ ps. and_then (pred n ps) (λ p. read (Some p))) (read None)

abbrev pub behind_deps : ℕ → Name → Columns → List Dep → Placed → Outcome Written
behind_deps n name columns deps ps = and_then (condition n ps) (λ p. read (table name columns deps p))

-- ")" deps [ "where" pred ]
abbrev pub behind_columns : ℕ → Name → Columns → Placed → Outcome Written
behind_columns n name columns = need (passing is_close) (λ _ ps. and_then (all_deps ps) (behind_deps n name columns))

-- "(" columns ")" deps [ "where" pred ]
abbrev pub behind_table : ℕ → Name → Placed → Outcome Written
behind_table n name = need (passing is_open) (λ _ ps. and_then (all_columns ps) (behind_columns n name))

-- NAME "(" columns ")" deps [ "where" pred ]
abbrev pub table_rule : ℕ → Placed → Outcome Written
table_rule n = need free_in (behind_table n)

-- "=" expr
abbrev pub behind_view : ℕ → Name → Placed → Outcome Written
behind_view n name = need (passing is_equals) (λ _ ps. and_then (expr n ps) (λ e. read (view name e)))

-- NAME "=" expr
abbrev pub view_rule : ℕ → Placed → Outcome Written
view_rule n = need free_in (behind_view n)

abbrev pub definition : ℕ → Placed → Outcome Written
definition n = choose (passing (is_keyword (codes "table"))) (λ _. table_rule n) (need (passing (is_keyword (codes "view"))) (λ _. view_rule n))

-- nothing follows
abbrev pub at_last : {A : Type 0} → A → Placed → Outcome A
at_last a [] = read a []
at_last a (p ∷ ps) = stopped (p ∷ ps)

-- a definition, and nothing behind it
abbrev pub alone : ℕ → Placed → Outcome Written
alone n ps = and_then (definition n ps) at_last
