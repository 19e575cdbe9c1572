-- What changes and contents of the code stand for.
use Rattle.std.specs.Prelude.{List, map}
use Rattle.std.specs.FinMap as finmap
use Rattle.lens_specs.specs.Relation.{Name, Rows}
use Rattle.lens_specs.specs.Keeping as keeping
use Rattle.signed_delta.specs.Tables.{table_delta}
use Rattle.table_keeper.specs.declared.keeper.Change.{Change}
use Rattle.table_keeper.specs.declared.keeper.Change.TheVariants.{Define, Rows as rows}
use Rattle.table_keeper.specs.declared.keeper.Kept.{Kept}
use Rattle.table_keeper.specs.declared.keeper.KeptTable.{KeptTable}

-- what a change stands for
abbrev pub change_view : Change → keeping.Change
change_view (Define text table) = keeping.define text table
change_view (rows deltas) = keeping.rows (map table_delta deltas.items)

-- a kept table by its name
abbrev pub rows_of : KeptTable → Name × Rows
rows_of t = (t.table, t.rows)

-- the names of kept tables, in order
abbrev pub names_of : List KeptTable → List Name
names_of tables = map (λ t. t.table) tables

-- what contents stand for
abbrev pub kept_view : Kept → keeping.Kept
kept_view k = record { texts = k.definitions.items; rows = finmap.from_entries (map rows_of k.tables.items) }
