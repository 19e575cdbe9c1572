-- Which definitions are taken.
use Rattle.std.specs.Prelude.{ℕ, suc, Bool, true, false, not, List, [], ◌∷◌, nat_le, is_some, is_err, Option, Some, None, option_map, Result, Ok, Err, if◌then◌else◌}
use Rattle.std.specs.FinMap as finmap
use Rattle.plain_values.specs.declared.join_kind.JoinKind.{JoinKind}
use Rattle.lens_specs.specs.Common.{Name, Columns, Edge, Predicate, Sort, Lens, select, drop, rename, sort, table_sort, Refusal, too_large, tables_limit, views_limit}
use Rattle.lens_specs.specs.Lens.{join}
use Rattle.lens_specs.specs.Refusal.{Limit}
use Rattle.grammar_specs.specs.Meaning as meaning
use Rattle.grammar_specs.specs.Meaning.{Expr, named, Definition, table, view}
use Rattle.grammar_specs.specs.Faults.{Fault}
use Rattle.grammar_laws.specs.Reading.{reading}
use Rattle.catalog_specs.specs.Catalogue.{Catalogue, is_table_of, with_definition}

-- why a definition is refused: the fault of its text, a name that has a lens already, a name that has none, or the rule that it breaks
pub data CatalogFault : Type 0 where
  language : Fault → CatalogFault
  name_taken : Name → CatalogFault
  unknown_name : Name → CatalogFault
  rule : Refusal → CatalogFault

-- ---- names, and how many there are

-- whether the name has a lens already
abbrev pub is_taken : Catalogue → Name → Bool
is_taken known name = is_some (finmap.get known name)

-- how many of the names pass the test with their lenses
abbrev pub count_named : (Name → Lens → Bool) → List (Name × Lens) → ℕ
count_named passes [] = 0
count_named passes (entry ∷ entries) = if passes entry.0 entry.1 then suc (count_named passes entries) else count_named passes entries

-- the number of tables
abbrev pub table_count : Catalogue → ℕ
table_count known = count_named is_table_of (finmap.entries known)

-- the number of views
abbrev pub view_count : Catalogue → ℕ
view_count known = count_named (λ name lens. not (is_table_of name lens)) (finmap.entries known)

-- ---- tables

-- the definition, or the refusal where there are too many
abbrev pub unless_full : Bool → Limit → Definition → Result Definition CatalogFault
unless_full true limit definition = Err (rule (too_large limit))
unless_full false limit definition = Ok definition

-- the definition where its columns, dependencies and conjuncts give a sort and there are fewer than 64 tables, or else its first refusal
abbrev pub where_sorted : Result Sort Refusal → Catalogue → Definition → Result Definition CatalogFault
where_sorted (Err first) known definition = Err (rule first)
where_sorted (Ok sort) known definition = unless_full (nat_le 64 (table_count known)) tables_limit definition

-- A table is taken where its name is free, it has a sort, and there are fewer than 64 tables.
abbrev pub judged_table : Catalogue → Name → Columns → List Edge → Predicate → Result Definition CatalogFault
judged_table known name columns deps predicate =
    if is_taken known name then Err (name_taken name) else where_sorted (table_sort columns deps predicate) known (table name columns deps predicate)

-- ---- views

-- the lens that the name has, or else the refusal
abbrev pub lens_named : Name → Option Lens → Result Lens CatalogFault
lens_named name None = Err (unknown_name name)
lens_named name (Some lens) = Ok lens

-- the lens where it has a sort, or else the refusal of its root
abbrev pub where_typed : Lens → Result Sort Refusal → Result Lens CatalogFault
where_typed lens (Ok sort) = Ok lens
where_typed lens (Err first) = Err (rule first)

-- with the lens of an operand, where it has one
abbrev pub over : (Lens → Lens) → Result Lens CatalogFault → Result Lens CatalogFault
over node (Err first) = Err first
over node (Ok lens) = where_typed (node lens) (sort (node lens))

-- with the lenses of both operands; the left one is refused first
abbrev pub over_both : JoinKind → Result Lens CatalogFault → Result Lens CatalogFault → Result Lens CatalogFault
over_both kind (Err first) right = Err first
over_both kind (Ok lens) right = over (join kind lens) right

-- The lens of an expression, or its first refusal: operands come before their node, the left one first. A view's name stands for its
-- lens, as a table's does.
abbrev pub lens_in : Catalogue → Expr → Result Lens CatalogFault
lens_in known (named name) = lens_named name (finmap.get known name)
lens_in known (meaning.select predicate of) = over (select predicate) (lens_in known of)
lens_in known (meaning.drop column by value of) = over (drop column by value) (lens_in known of)
lens_in known (meaning.rename column new of) = over (rename column new) (lens_in known of)
lens_in known (meaning.join kind left right) = over_both kind (lens_in known left) (lens_in known right)

-- the definition of a view whose expression has a lens, where there are fewer than 256 views, or else its first refusal
abbrev pub where_lensed : Result Lens CatalogFault → Catalogue → Definition → Result Definition CatalogFault
where_lensed (Err first) known definition = Err first
where_lensed (Ok lens) known definition = unless_full (nat_le 256 (view_count known)) views_limit definition

-- A view is taken where its name is free, its expression has a lens, and there are fewer than 256 views.
abbrev pub judged_view : Catalogue → Name → Expr → Result Definition CatalogFault
judged_view known name expr = if is_taken known name then Err (name_taken name) else where_lensed (lens_in known expr) known (view name expr)

-- ---- texts

-- the definition, where it is taken after those that made the catalogue, or else why it is refused
abbrev pub judged : Catalogue → Result Definition Fault → Result Definition CatalogFault
judged known (Err fault) = Err (language fault)
judged known (Ok (table name columns deps predicate)) = judged_table known name columns deps predicate
judged known (Ok (view name expr)) = judged_view known name expr

-- the place of the first of these texts that is refused after those that made the catalogue
abbrev pub refused_from : Catalogue → List (List ℕ) → Option ℕ
refused_from known [] = None
refused_from known (text ∷ texts) =
    if is_err (judged known (reading text)) then Some 0
    else option_map suc (refused_from (with_definition (reading text) known) texts)

-- the place of the first of these texts that is refused, the texts being taken in order
abbrev pub first_refused : List (List ℕ) → Option ℕ
first_refused = refused_from finmap.empty
