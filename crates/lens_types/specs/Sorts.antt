-- A sort and its parts, and the sorts of a selection, of a projection, of a rename and of a join.
use Rattle.std.specs.Prelude.{ℕ, List, Option, Result}
use Rattle.plain_values.specs.declared.value.Value.{Value}
use Rattle.lens_specs.specs.Common.{Columns, Edge, Name, Names, Predicate, Sort, select_sort, drop_sort, rename_sort, join_sort, Refusal, select_fault, drop_fault, rename_fault, join_fault, unless_refused}

-- the sort of these parts
abbrev pub sort_from : Columns → Predicate → List Edge → Sort
sort_from U P T = record { columns = U; predicate = P; tree = T }

-- the sort of the rows that P holds on, in a lens of so many nodes, or its first refusal
abbrev pub selection : ℕ → Sort → Predicate → Result Sort Refusal
selection nodes s P = unless_refused (select_fault nodes s P) (select_sort s P)

-- the sort without A, which X determines and a fills, in a lens of so many nodes, or its first refusal
abbrev pub projection : ℕ → Sort → Name → Names → Value → Result Sort Refusal
projection nodes s A X a = unless_refused (drop_fault nodes s A X a) (drop_sort s A)

-- the sort with B for A, in a lens of so many nodes, or its first refusal
abbrev pub renaming : ℕ → Sort → Name → Name → Result Sort Refusal
renaming nodes s A B = unless_refused (rename_fault nodes s A B) (rename_sort s A B)

-- the sort of the join of both, over which a table may be twice, in a lens of so many nodes, or its first refusal
abbrev pub natural_join : ℕ → Sort → Sort → Option Name → Result Sort Refusal
natural_join nodes s t twice = unless_refused (join_fault nodes s t twice) (join_sort s t)
