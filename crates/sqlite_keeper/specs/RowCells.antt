-- Rows as they stand in a database: the cells of a row, one or two for each column.
use Rattle.std.specs.Prelude.{ℕ, ◌+◌, List, [], ◌∷◌, Option, None, Some, option_map, if◌then◌else◌}
use Rattle.std.specs.FinMap as finmap
use Rattle.std.specs.List.{zip}
use Rattle.plain_values.specs.SortedMap.{keys_of}
use Rattle.plain_values.specs.Value.{is_nullable}
use Rattle.plain_values.specs.Row.{Row}
use Rattle.plain_values.specs.declared.value.Kind.{Kind}
use Rattle.plain_values.specs.declared.value.Value.{Value}
use Rattle.sqlite_value.specs.Order.{column}
use Rattle.sqlite_value.specs.declared.value.Value.{Value as Cell}
use Rattle.sqlite_keeper.specs.Cells.{read_in}

-- how many cells a column of this kind has: its own, and that of its mark where the kind takes null
abbrev pub places_of : Kind → ℕ
places_of k = if is_nullable k then 2 else 1

-- what stands at a place for a value of this kind, with its mark behind it where the kind takes null; past the end stands SQL's NULL
abbrev pub read_at : Kind → List Cell → ℕ → Option Value
read_at k cells place = read_in k (column cells place) (column cells (place + 1))

-- a value before others, if all can be read
abbrev pub before : Option Value → Option (List Value) → Option (List Value)
before None values = None
before (Some value) values = option_map (λ more. value ∷ more) values

-- what stands from a place on for values in these columns
abbrev pub values_from : List (List ℕ × Kind) → List Cell → ℕ → Option (List Value)
values_from [] cells place = Some []
values_from (c ∷ columns) cells place = before (read_at c.1 cells place) (values_from columns cells (place + places_of c.1))

-- the row that stands in the cells
abbrev pub row_in : List (List ℕ × Kind) → List Cell → Option Row
row_in columns cells = option_map (λ values. finmap.from_entries (zip (keys_of columns) values)) (values_from columns cells 0)
