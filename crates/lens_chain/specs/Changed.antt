-- The differences of tables by their names.
use Rattle.std.specs.Prelude.{List, [], ◌∷◌, if◌then◌else◌, map}
use Rattle.std.specs.FinMap as finmap
use Rattle.plain_values.specs.Order.{bytes_cmp}
use Rattle.lens_specs.specs.Common.{Delta, TableDelta, is_empty, Name}

-- a difference for each of some tables
abbrev pub Changed : Type 0
Changed = finmap.FinMap bytes_cmp Delta

-- with the difference of this table, unless it is empty
abbrev pub with_change : TableDelta → Changed → Changed
with_change x m = if is_empty x.delta then m else finmap.insert m x.table x.delta

-- with those of these tables, one after the other
abbrev pub with_changes : List TableDelta → Changed → Changed
with_changes [] m = m
with_changes (x ∷ xs) m = with_changes xs (with_change x m)

-- the difference of the table at its name
abbrev pub of_entry : Name × Delta → TableDelta
of_entry e = record { table = e.0; delta = e.1 }

-- the differences in rising order of names
abbrev pub in_order : Changed → List TableDelta
in_order m = map of_entry (finmap.entries m)
