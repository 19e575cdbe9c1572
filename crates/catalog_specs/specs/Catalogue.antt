-- The lenses that definitions make.
use Rattle.std.specs.Prelude.{ℕ, Bool, false, List, [], ◌∷◌, nat_eq, Option, Some, None, option_map, Result, Ok, Err}
use Rattle.std.specs.Cmp.Lexicographic.{pointwise}
use Rattle.std.specs.FinMap as finmap
use Rattle.plain_values.specs.Order.{bytes_cmp}
use Rattle.plain_values.specs.declared.join_kind.JoinKind.{JoinKind}
use Rattle.lens_specs.specs.Common.{Name, Columns, Edge, tree_of, Predicate, Sort, Lens, base, select, drop, rename, tree_or_none}
use Rattle.lens_specs.specs.Lens.{join}
use Rattle.grammar_specs.specs.Meaning as meaning
use Rattle.grammar_specs.specs.Meaning.{Expr, named, Definition, table, view}
use Rattle.grammar_specs.specs.Faults.{Fault}
use Rattle.grammar_laws.specs.Reading.{reading}

-- a lens for each name
abbrev pub Catalogue : Type 0
Catalogue = finmap.FinMap bytes_cmp Lens

-- ---- the lens of an expression

-- the join of two lenses that are there
abbrev pub join_of : JoinKind → Option Lens → Option Lens → Option Lens
join_of kind None right = None
join_of kind (Some left) None = None
join_of kind (Some left) (Some right) = Some (join kind left right)

-- the lens of an expression, where the names in it are known; a view's name stands for its lens
abbrev pub lens_of : Expr → Catalogue → Option Lens
lens_of (named name) known = finmap.get known name
lens_of (meaning.select predicate of) known = option_map (select predicate) (lens_of of known)
lens_of (meaning.drop column by value of) known = option_map (drop column by value) (lens_of of known)
lens_of (meaning.rename column new of) known = option_map (rename column new) (lens_of of known)
lens_of (meaning.join kind left right) known = join_of kind (lens_of left known) (lens_of right known)

-- ---- the lens of a table

-- the sort of a table with these columns and conjuncts, and dependencies whose tree form is a tree
abbrev pub sort_with : Columns → List Edge → Predicate → Sort
sort_with columns deps predicate = record { columns = columns; predicate = predicate; tree = tree_or_none (tree_of deps) }

-- the lens of a table
abbrev pub table_lens : Name → Columns → List Edge → Predicate → Lens
table_lens name columns deps predicate = base name (sort_with columns deps predicate)

-- whether the lens is the table of this name itself
abbrev pub is_table_of : Name → Lens → Bool
is_table_of name (base of sort) = pointwise nat_eq of name
is_table_of name (select predicate lens) = false
is_table_of name (drop column by value lens) = false
is_table_of name (rename column new lens) = false
is_table_of name (join kind left right) = false

-- ---- the lenses of definitions

-- the catalogue with the lens under the name, where there is one
abbrev pub with_lens : Name → Option Lens → Catalogue → Catalogue
with_lens name None known = known
with_lens name (Some lens) known = finmap.insert known name lens

-- the catalogue with one definition more
abbrev pub with_definition : Result Definition Fault → Catalogue → Catalogue
with_definition (Err fault) known = known
with_definition (Ok (table name columns deps predicate)) known = with_lens name (Some (table_lens name columns deps predicate)) known
with_definition (Ok (view name expr)) known = with_lens name (lens_of expr known) known

-- the definitions that the texts say, one after another, added to a catalogue
abbrev pub catalogue_onto : Catalogue → List (List ℕ) → Catalogue
catalogue_onto known [] = known
catalogue_onto known (text ∷ texts) = catalogue_onto (with_definition (reading text) known) texts

-- the lenses of the definitions, whose texts are taken in order
abbrev pub catalogue : List (List ℕ) → Catalogue
catalogue = catalogue_onto finmap.empty
