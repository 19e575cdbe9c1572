-- Tables in rising order of names, and tables that are put among them.
use Rattle.std.specs.Prelude.{◌≡◌, ◌<◌, Bool, true, List, [], ◌∷◌, map, length, is_some}
use Rattle.std.specs.FinMap as finmap
use Rattle.std.specs.List.{list_any, HoldsAt}
use Rattle.std.specs.List.Sorted.{IsStrictlySortedBy}
use Rattle.std.specs.Ordering.{eq_by_cmp}
use Rattle.plain_values.specs.Order.{bytes_cmp}
use Rattle.lens_specs.specs.Common.{Name, Rows, new_view, rows_at}
use Rattle.lens_specs.specs.Delta as spec
use Rattle.table_keeper.specs.Changes.{names_of, rows_of}
use Rattle.table_keeper.specs.declared.keeper.KeptTable.{KeptTable}
use Rattle.table_keeper.specs.declared.tables.Placed.{Placed}

-- the names rise
abbrev pub Rise : List KeptTable → Type 0
Rise tables = IsStrictlySortedBy bytes_cmp (names_of tables)

-- the rows of each table
abbrev pub rows_in : List KeptTable → finmap.FinMap bytes_cmp Rows
rows_in tables = finmap.from_entries (map rows_of tables)

-- whether the name is among these
abbrev pub is_named : List Name → Name → Bool
is_named names name = list_any (eq_by_cmp bytes_cmp name) names

-- the table at the place has the name of the placed one
abbrev pub FitsAt : List Name → Placed → Type 0
FitsAt names placed = (placed.place < length names) × HoldsAt (λ name. name ≡ placed.table.table) names placed.place

-- the entry of a placed table
abbrev pub entry_of : Placed → Name × Rows
entry_of placed = rows_of placed.table

-- the entry of the table that the difference changes, as it is after that
abbrev pub entry_after : finmap.FinMap bytes_cmp Rows → spec.TableDelta → Name × Rows
entry_after tables change = (change.table, new_view (rows_at tables change.table) change.delta)

-- the table that the difference changes is there
abbrev pub IsThere : finmap.FinMap bytes_cmp Rows → spec.TableDelta → Type 0
IsThere tables change = is_some (finmap.get tables change.table) ≡ true

-- the tables with these entries in place of their own
abbrev pub with_entries : List (Name × Rows) → finmap.FinMap bytes_cmp Rows → finmap.FinMap bytes_cmp Rows
with_entries [] tables = tables
with_entries (entry ∷ entries) tables = with_entries entries (finmap.insert tables entry.0 entry.1)
