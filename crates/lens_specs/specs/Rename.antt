-- Renaming a column: B for A in names, rows, columns, dependencies and predicates.
use Rattle.std.specs.Prelude.{List, map, Option, Some, None}
use Rattle.std.specs.FinMap as finmap
use Rattle.plain_values.specs.SortedSet as set
use Rattle.plain_values.specs.declared.value.Kind.{Kind}
use Rattle.plain_values.specs.Row.{Row}
use Rattle.lens_specs.specs.Names.{Name, Names}
use Rattle.lens_specs.specs.Rows.{at, with_at}
use Rattle.lens_specs.specs.Columns.{Columns}
use Rattle.lens_specs.specs.Dependencies.{Edge, edge}
use Rattle.lens_specs.specs.Predicate.{Formula, truth, falsity, compare, compare_columns, one_of, null_at, negation, all_of, any_of, Formulas, no_formulas, formulas, Predicate}
pub use Rattle.plain_values.specs.Name.{renamed}

-- each name of the set
unfoldable pub renamed_names : Name → Name → Names → Names
renamed_names A B C = set.image (renamed A B) C

-- the row with A's value in B
unfoldable pub renamed_row : Name → Name → Row → Row
renamed_row A B r = with_at (finmap.remove r A) B (at r A)

-- the columns with this kind, or none, at a name
unfoldable pub with_kind : Columns → Name → Option Kind → Columns
with_kind U c None = finmap.remove U c
with_kind U c (Some k) = finmap.insert U c k

-- the columns with A's kind at B
unfoldable pub renamed_columns : Name → Name → Columns → Columns
renamed_columns A B U = with_kind (finmap.remove U A) B (finmap.get U A)

-- both sides of the edge
abbrev pub renamed_edge : Name → Name → Edge → Edge
renamed_edge A B e = edge (renamed_names A B e.left) (renamed_names A B e.right)

-- each edge, in order
abbrev pub renamed_tree : Name → Name → List Edge → List Edge
renamed_tree A B T = map (renamed_edge A B) T

-- each name in the formula
abbrev mutual
  pub renamed_formula : Name → Name → Formula → Formula
  renamed_formula A B truth = truth
  renamed_formula A B falsity = falsity
  renamed_formula A B (compare c op v) = compare (renamed A B c) op v
  renamed_formula A B (compare_columns c op d) = compare_columns (renamed A B c) op (renamed A B d)
  renamed_formula A B (one_of c vs) = one_of (renamed A B c) vs
  renamed_formula A B (null_at c) = null_at (renamed A B c)
  renamed_formula A B (negation f) = negation (renamed_formula A B f)
  renamed_formula A B (all_of fs) = all_of (renamed_formulas A B fs)
  renamed_formula A B (any_of fs) = any_of (renamed_formulas A B fs)

  pub renamed_formulas : Name → Name → Formulas → Formulas
  renamed_formulas A B no_formulas = no_formulas
  renamed_formulas A B (formulas f fs) = formulas (renamed_formula A B f) (renamed_formulas A B fs)

-- each conjunct
abbrev pub renamed_predicate : Name → Name → Predicate → Predicate
renamed_predicate A B P = map (renamed_formula A B) P
