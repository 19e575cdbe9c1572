-- Definitions as they are written, with their parentheses, and the tokens that spell them.
use Rattle.std.specs.Prelude.{ℕ, Bool, true, false, not, ◌&&◌, List, [], ◌∷◌, ◌++◌, map, flat_map, codes, nat_eq, Option, Some, None, if◌then◌else◌}
use Rattle.std.specs.List.{list_any, list_all}
use Rattle.std.specs.Cmp.Lexicographic.{pointwise}
use Rattle.plain_values.specs.Value.{is_null, is_nullable}
use Rattle.plain_values.specs.declared.join_kind.JoinKind.{JoinKind}
use Rattle.plain_values.specs.declared.join_kind.JoinKind.TheVariants.{DeleteLeft, DeleteRight, DeleteBoth}
use Rattle.plain_values.specs.declared.value.Kind.{Kind}
use Rattle.plain_values.specs.declared.value.Kind.TheVariants as kind
use Rattle.plain_values.specs.declared.value.Value.{Value}
use Rattle.plain_values.specs.declared.value.Value.TheVariants.{Null, Int, Text, Flag}
use Rattle.lens_specs.specs.Common.{Name, Op, eq}
use Rattle.grammar_specs.specs.Tokens.{Token, word, integer, text, open_paren, close_paren, comma, arrow, operator, is_free_name}

-- ---- trees

-- predicates: parts joined by "and" to an All, and those joined by "or" to a Pred
mutual
  pub data Part : Type 0 where
    literally : Bool → Part
    compares : Name → Op → Value → Part
    compares_columns : Name → Op → Name → Part
    is_in : Name → List Value → Part
    tests_null : Name → Part
    negated : Part → Part
    grouped : Pred → Part

  pub data All : Type 0 where
    only : Part → All
    joined : All → Part → All

  pub data Pred : Type 0 where
    alone : All → Pred
    either : Pred → All → Pred

-- expressions, and the operands in them
mutual
  pub data Operand : Type 0 where
    bare : Name → Operand
    enclosed : Expr → Operand

  pub data Expr : Type 0 where
    named : Name → Expr
    select : Operand → Pred → Expr
    drop : Name → List Name → Value → Operand → Expr
    rename : Name → Name → Operand → Expr
    join : JoinKind → Operand → Operand → Expr

-- the names of both sides of a dependency
abbrev pub Dep : Type 0
Dep = List Name × List Name

-- a table with its columns, dependencies and predicate, or a view
pub data Written : Type 0 where
  table : Name → List (Name × Kind) → List Dep → Option Pred → Written
  view : Name → Expr → Written

-- ---- the tokens that spell them

-- a word of the language
abbrev pub keyword : List ℕ → Token
keyword w = word w

-- INTEGER | TEXT | "true" | "false", and "null" where it may stand
abbrev pub literal : Value → Token
literal Null = word (codes "null")
literal (Int z) = integer z
literal (Text bytes) = text bytes
literal (Flag true) = word (codes "true")
literal (Flag false) = word (codes "false")

-- literal { "," literal }
abbrev pub literals : List Value → List Token
literals [] = []
literals (v ∷ vs) = literal v ∷ flat_map (λ w. comma ∷ literal w ∷ []) vs

-- part, all and pred
abbrev mutual
  pub part_tokens : Part → List Token
  part_tokens (literally b) = literal (Flag b) ∷ []
  part_tokens (compares c op v) = word c ∷ operator op ∷ literal v ∷ []
  part_tokens (compares_columns c op d) = word c ∷ operator op ∷ word d ∷ []
  part_tokens (is_in c vs) = word c ∷ word (codes "in") ∷ open_paren ∷ (literals vs ++ close_paren ∷ [])
  part_tokens (tests_null c) = word c ∷ word (codes "is") ∷ word (codes "null") ∷ []
  part_tokens (negated p) = word (codes "not") ∷ part_tokens p
  part_tokens (grouped o) = open_paren ∷ (pred_tokens o ++ close_paren ∷ [])

  pub all_tokens : All → List Token
  all_tokens (only p) = part_tokens p
  all_tokens (joined a p) = all_tokens a ++ word (codes "and") ∷ part_tokens p

  pub pred_tokens : Pred → List Token
  pred_tokens (alone a) = all_tokens a
  pred_tokens (either o a) = pred_tokens o ++ word (codes "or") ∷ all_tokens a

-- the word of a join that deletes there
abbrev pub join_word : JoinKind → List ℕ
join_word DeleteLeft = codes "join_dl"
join_word DeleteRight = codes "join_dr"
join_word DeleteBoth = codes "join_both"

-- operand and expr
abbrev mutual
  pub operand_tokens : Operand → List Token
  operand_tokens (bare n) = word n ∷ []
  operand_tokens (enclosed e) = open_paren ∷ (expr_tokens e ++ close_paren ∷ [])

  pub expr_tokens : Expr → List Token
  expr_tokens (named n) = word n ∷ []
  expr_tokens (select o p) = word (codes "select") ∷ word (codes "from") ∷ (operand_tokens o ++ word (codes "where") ∷ pred_tokens p)
  expr_tokens (drop c by v o) =
      word (codes "drop") ∷ word c ∷ word (codes "determined") ∷ word (codes "by") ∷ open_paren
      ∷ (map word by ++ comma ∷ literal v ∷ close_paren ∷ word (codes "from") ∷ operand_tokens o)
  expr_tokens (rename c d o) = word (codes "rename") ∷ word c ∷ word (codes "to") ∷ word d ∷ word (codes "from") ∷ operand_tokens o
  expr_tokens (join k o q) = word (join_word k) ∷ (operand_tokens o ++ word (codes "with") ∷ operand_tokens q)

-- the word of a kind, the same with null and without
abbrev pub kind_word : Kind → List ℕ
kind_word kind.Int = codes "int"
kind_word kind.Text = codes "text"
kind_word kind.Flag = codes "bool"
kind_word kind.IntOrNull = codes "int"
kind_word kind.TextOrNull = codes "text"
kind_word kind.FlagOrNull = codes "bool"

-- "null" behind a kind that takes it
abbrev pub null_tokens : Kind → List Token
null_tokens k = if is_nullable k then word (codes "null") ∷ [] else []

-- ( "int" | "text" | "bool" ) [ "null" ]
abbrev pub kind_tokens : Kind → List Token
kind_tokens k = word (kind_word k) ∷ null_tokens k

-- NAME kind
abbrev pub column_tokens : Name × Kind → List Token
column_tokens column = word column.0 ∷ kind_tokens column.1

-- column { "," column }
abbrev pub columns_tokens : List (Name × Kind) → List Token
columns_tokens [] = []
columns_tokens (column ∷ columns) = column_tokens column ++ flat_map (λ c. comma ∷ column_tokens c) columns

-- NAME { NAME } "->" NAME { NAME }
abbrev pub dep_tokens : Dep → List Token
dep_tokens dep = map word dep.0 ++ arrow ∷ map word dep.1

-- [ "with" dep { "," dep } ]
abbrev pub deps_tokens : List Dep → List Token
deps_tokens [] = []
deps_tokens (dep ∷ deps) = word (codes "with") ∷ (dep_tokens dep ++ flat_map (λ d. comma ∷ dep_tokens d) deps)

-- [ "where" pred ]
abbrev pub where_tokens : Option Pred → List Token
where_tokens None = []
where_tokens (Some p) = word (codes "where") ∷ pred_tokens p

-- "table" NAME "(" columns ")" deps [ "where" pred ], or "view" NAME "=" expr
abbrev pub written_tokens : Written → List Token
written_tokens (table name columns deps condition) =
    word (codes "table") ∷ word name ∷ open_paren ∷ (columns_tokens columns ++ close_paren ∷ (deps_tokens deps ++ where_tokens condition))
written_tokens (view name e) = word (codes "view") ∷ word name ∷ operator eq ∷ expr_tokens e

-- ---- which trees are definitions

-- the list has a member
abbrev pub is_some_list : {A : Type 0} → List A → Bool
is_some_list [] = false
is_some_list (x ∷ xs) = true

-- one name or more, and none of them reserved
abbrev pub are_free_names : List Name → Bool
are_free_names names = is_some_list names && list_all is_free_name names

-- one value or more, and none of them null
abbrev pub are_constants : List Value → Bool
are_constants vs = is_some_list vs && list_all (λ v. not (is_null v)) vs

-- every name is free, every list of literals has one, and null is compared with nothing
abbrev mutual
  pub is_part : Part → Bool
  is_part (literally b) = true
  is_part (compares c op v) = is_free_name c && not (is_null v)
  is_part (compares_columns c op d) = is_free_name c && is_free_name d
  is_part (is_in c vs) = is_free_name c && are_constants vs
  is_part (tests_null c) = is_free_name c
  is_part (negated p) = is_part p
  is_part (grouped o) = is_pred o

  pub is_all : All → Bool
  is_all (only p) = is_part p
  is_all (joined a p) = is_all a && is_part p

  pub is_pred : Pred → Bool
  is_pred (alone a) = is_all a
  is_pred (either o a) = is_pred o && is_all a

-- every name is free, and names follow each "by"
abbrev mutual
  pub is_operand : Operand → Bool
  is_operand (bare n) = is_free_name n
  is_operand (enclosed e) = is_expr e

  pub is_expr : Expr → Bool
  is_expr (named n) = is_free_name n
  is_expr (select o p) = is_operand o && is_pred p
  is_expr (drop c by v o) = is_free_name c && are_free_names by && is_operand o
  is_expr (rename c d o) = is_free_name c && is_free_name d && is_operand o
  is_expr (join k o q) = is_operand o && is_operand q

-- whether the name is that of a column
abbrev pub is_column_of : List (Name × Kind) → Name → Bool
is_column_of columns name = list_any (λ c. pointwise nat_eq c.0 name) columns

-- each name is free, and no two of these columns and those before them have the same name
abbrev pub are_columns : List (Name × Kind) → List (Name × Kind) → Bool
are_columns before [] = true
are_columns before (c ∷ columns) = is_free_name c.0 && not (is_column_of before c.0) && are_columns (before ++ c ∷ []) columns

-- the dependency has free names on both sides
abbrev pub is_dep : Dep → Bool
is_dep dep = are_free_names dep.0 && are_free_names dep.1

-- the predicate behind "where" is one, if it is there
abbrev pub is_condition : Option Pred → Bool
is_condition None = true
is_condition (Some p) = is_pred p

-- a table has a column, its columns have distinct names, no side and no "by" is empty, and no name is a reserved word
abbrev pub is_definition : Written → Bool
is_definition (table name columns deps condition) =
    is_free_name name && (is_some_list columns && are_columns [] columns) && list_all is_dep deps && is_condition condition
is_definition (view name e) = is_free_name name && is_expr e
