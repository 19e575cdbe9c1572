-- What a definition means, apart from how it is written.
use Rattle.std.specs.Prelude.{◌≡◌, ℕ, Bool, true, false, List, [], ◌∷◌, ◌++◌, map, Option, Some, None}
use Rattle.std.specs.FinMap as map_of
use Rattle.plain_values.specs.SortedSet as set
use Rattle.plain_values.specs.declared.join_kind.JoinKind.{JoinKind}
use Rattle.plain_values.specs.declared.value.Value.{Value}
use Rattle.lens_specs.specs.Common.{Name, Names, Columns, Edge, edge, Formula, truth, falsity, compare, compare_columns, one_of, null_at, negation, all_of, any_of, Formulas, no_formulas, formulas, Predicate}
use Rattle.grammar_specs.specs.Texts.{Placed, tokens_in, IsText}
use Rattle.grammar_specs.specs.Written as written
use Rattle.grammar_specs.specs.Written.{Part, literally, compares, compares_columns, is_in, tests_null, negated, grouped, All, only, joined, Pred, alone, either, Operand, bare, enclosed, Dep, Written, written_tokens, is_definition}

-- a table or a view by its name, the rows of it that a predicate holds on, a column dropped, a column under another name, a join
pub data Expr : Type 0 where
  named : Name → Expr
  select : Predicate → Expr → Expr
  drop : Name → Names → Value → Expr → Expr
  rename : Name → Name → Expr → Expr
  join : JoinKind → Expr → Expr → Expr

-- a table with its columns, dependencies and predicate, or a view
pub data Definition : Type 0 where
  table : Name → Columns → List Edge → Predicate → Definition
  view : Name → Expr → Definition

-- ---- predicates

-- the list as formulas
abbrev pub formulas_of : List Formula → Formulas
formulas_of [] = no_formulas
formulas_of (f ∷ fs) = formulas f (formulas_of fs)

-- the formulas as a list
abbrev pub list_of : Formulas → List Formula
list_of no_formulas = []
list_of (formulas f fs) = f ∷ list_of fs

-- the members of a conjunction, or the formula alone
abbrev pub conjuncts : Formula → List Formula
conjuncts truth = truth ∷ []
conjuncts falsity = falsity ∷ []
conjuncts (compare c op v) = compare c op v ∷ []
conjuncts (compare_columns c op d) = compare_columns c op d ∷ []
conjuncts (one_of c vs) = one_of c vs ∷ []
conjuncts (null_at c) = null_at c ∷ []
conjuncts (negation f) = negation f ∷ []
conjuncts (all_of fs) = list_of fs
conjuncts (any_of fs) = any_of fs ∷ []

-- the members of a disjunction, or the formula alone
abbrev pub disjuncts : Formula → List Formula
disjuncts truth = truth ∷ []
disjuncts falsity = falsity ∷ []
disjuncts (compare c op v) = compare c op v ∷ []
disjuncts (compare_columns c op d) = compare_columns c op d ∷ []
disjuncts (one_of c vs) = one_of c vs ∷ []
disjuncts (null_at c) = null_at c ∷ []
disjuncts (negation f) = negation f ∷ []
disjuncts (all_of fs) = all_of fs ∷ []
disjuncts (any_of fs) = list_of fs

-- the one formula, or the conjunction of several
abbrev pub conjunction : List Formula → Formula
conjunction [] = truth
conjunction (f ∷ []) = f
conjunction (f ∷ g ∷ fs) = all_of (formulas_of (f ∷ g ∷ fs))

-- the one formula, or the disjunction of several
abbrev pub disjunction : List Formula → Formula
disjunction [] = falsity
disjunction (f ∷ []) = f
disjunction (f ∷ g ∷ fs) = any_of (formulas_of (f ∷ g ∷ fs))

-- true or false
abbrev pub constant : Bool → Formula
constant true = truth
constant false = falsity

-- an "and" directly within an "and", also through parentheses, is one; so is an "or" within an "or"
abbrev mutual
  pub part_meaning : Part → Formula
  part_meaning (literally b) = constant b
  part_meaning (compares c op v) = compare c op v
  part_meaning (compares_columns c op d) = compare_columns c op d
  part_meaning (is_in c vs) = one_of c vs
  part_meaning (tests_null c) = null_at c
  part_meaning (negated p) = negation (part_meaning p)
  part_meaning (grouped o) = disjunction (pred_disjuncts o)

  pub all_conjuncts : All → List Formula
  all_conjuncts (only p) = conjuncts (part_meaning p)
  all_conjuncts (joined a p) = all_conjuncts a ++ conjuncts (part_meaning p)

  pub pred_disjuncts : Pred → List Formula
  pred_disjuncts (alone a) = disjuncts (conjunction (all_conjuncts a))
  pred_disjuncts (either o a) = pred_disjuncts o ++ disjuncts (conjunction (all_conjuncts a))

-- the formula of a predicate
abbrev pub pred_meaning : Pred → Formula
pred_meaning o = disjunction (pred_disjuncts o)

-- a top "and" gives the list of its members, any other predicate a list of one
abbrev pub predicate_of : Pred → Predicate
predicate_of o = conjuncts (pred_meaning o)

-- no "where" gives the empty list
abbrev pub condition_meaning : Option Pred → Predicate
condition_meaning None = []
condition_meaning (Some o) = predicate_of o

-- ---- expressions and definitions

-- parentheses mean nothing more, and the names behind "by" are a set
abbrev mutual
  pub operand_meaning : Operand → Expr
  operand_meaning (bare n) = named n
  operand_meaning (enclosed e) = expr_meaning e

  pub expr_meaning : written.Expr → Expr
  expr_meaning (written.named n) = named n
  expr_meaning (written.select o p) = select (predicate_of p) (operand_meaning o)
  expr_meaning (written.drop c by v o) = drop c (set.from_list by) v (operand_meaning o)
  expr_meaning (written.rename c d o) = rename c d (operand_meaning o)
  expr_meaning (written.join k o q) = join k (operand_meaning o) (operand_meaning q)

-- the names of a side are a set
abbrev pub dep_meaning : Dep → Edge
dep_meaning dep = edge (set.from_list dep.0) (set.from_list dep.1)

-- what is meant by what is written
abbrev pub meaning : Written → Definition
meaning (written.table name columns deps condition) = table name (map_of.from_entries columns) (map dep_meaning deps) (condition_meaning condition)
meaning (written.view name e) = view name (expr_meaning e)

-- The text is what is written: its tokens spell it, and it is a definition.
abbrev pub IsWritten : List ℕ → Written → Type 0
IsWritten text w = (is_definition w ≡ true) × (placed : Placed) × (tokens_in placed ≡ written_tokens w) × IsText placed text

-- The text says the definition: it is written so, and means this.
abbrev pub Says : List ℕ → Definition → Type 0
Says text d = (w : Written) × IsWritten text w × (meaning w ≡ d)
