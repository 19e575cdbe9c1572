-- Rows that are sent.
use Rattle.std.specs.Prelude.{ℕ, suc, Bool, List, [], ◌∷◌, is_some, if◌then◌else◌, Option, Some, None, option_map, option_and_then, Result, Ok, Err}
use Rattle.std.specs.FinMap as finmap
use Rattle.serde_json.specs.Data.{Data, null, boolean, number, string, array, object, Items, no_items, item, Members}
use Rattle.serde_json.specs.Find as find
use Rattle.plain_values.specs.declared.value.Kind.{Kind}
use Rattle.plain_values.specs.Value.{fits}
use Rattle.plain_values.specs.declared.value.Value.{Value}
use Rattle.plain_values.specs.declared.value.Value.TheVariants.{Null, Int, Text, Flag}
use Rattle.plain_values.specs.Row.{Row}
use Rattle.lens_specs.specs.Relation.{Name, Columns}
use Rattle.server_specs.specs.Request.{text_in, first_other, least_of}

-- the value that the data says: null, a number of 64 bits, a text or a truth value
abbrev pub value_of : Data → Option Value
value_of null = Some Null
value_of (boolean b) = Some (Flag b)
value_of (number n) = option_map Int (find.as_i64 n)
value_of (string bytes) = option_map Text (text_in (string bytes))
value_of (array ds) = None
value_of (object ms) = None

-- the value, if it fits the kind
abbrev pub fitting : Kind → Value → Option Value
fitting k v = if fits v k then Some v else None

-- the value that the data says, if it fits the kind
abbrev pub value_in : Kind → Data → Option Value
value_in k d = option_and_then (fitting k) (value_of d)

-- the value that the members have for a column, if it fits
abbrev pub value_at : Members → Name × Kind → Option Value
value_at ms column = option_and_then (value_in column.1) (find.get_member column.0 ms)

-- the column with its value, in front of the others
abbrev pub with_pair : Name → Option Value → Result (List (Name × Value)) Name → Result (List (Name × Value)) Name
with_pair name None others = Err name
with_pair name (Some value) (Ok pairs) = Ok ((name, value) ∷ pairs)
with_pair name (Some value) (Err wrong) = Err wrong

-- each of the columns with its value, or the first that is missing or whose value does not fit
abbrev pub pairs_in : List (Name × Kind) → Members → Result (List (Name × Value)) Name
pairs_in [] ms = Ok []
pairs_in (column ∷ columns) ms = with_pair column.0 (value_at ms column) (pairs_in columns ms)

-- whether there is such a column
abbrev pub is_column_of : Columns → List ℕ → Bool
is_column_of columns name = is_some (finmap.get columns name)

-- the row of these pairs, or the least wrong name: of a column, or of a member that is no column
abbrev pub row_from : Result (List (Name × Value)) Name → Option (List ℕ) → Result Row (List ℕ)
row_from (Ok pairs) None = Ok (finmap.from_entries pairs)
row_from (Ok pairs) (Some strange) = Err strange
row_from (Err wrong) strange = Err (least_of wrong strange)

-- the row of an object whose members are exactly the columns, each with a value that fits; or its least wrong name
abbrev pub row_of_members : Columns → Members → Result Row (List ℕ)
row_of_members columns ms = row_from (pairs_in (finmap.entries columns) ms) (first_other (is_column_of columns) ms)

-- the name of the first column
abbrev pub first_column : List (Name × Kind) → Name
first_column [] = []
first_column (column ∷ columns) = column.0

-- the row that the data says; what is no object misses every column
abbrev pub row_in : Columns → Data → Result Row (List ℕ)
row_in columns null = Err (first_column (finmap.entries columns))
row_in columns (boolean b) = Err (first_column (finmap.entries columns))
row_in columns (number n) = Err (first_column (finmap.entries columns))
row_in columns (string bytes) = Err (first_column (finmap.entries columns))
row_in columns (array ds) = Err (first_column (finmap.entries columns))
row_in columns (object ms) = row_of_members columns ms

-- a bad row: its place in the list, and its least wrong name
abbrev pub BadRow : Type 0
BadRow = ℕ × List ℕ

-- one place later
abbrev pub later : BadRow → BadRow
later bad = (suc bad.0, bad.1)

-- the row in front of the others
abbrev pub with_row : Result Row (List ℕ) → Result (List Row) BadRow → Result (List Row) BadRow
with_row (Err name) others = Err (0, name)
with_row (Ok row) (Ok rows) = Ok (row ∷ rows)
with_row (Ok row) (Err bad) = Err (later bad)

-- the rows that the list says, or the first element that is no row of the columns
abbrev pub rows_in : Columns → Items → Result (List Row) BadRow
rows_in columns no_items = Ok []
rows_in columns (item d ds) = with_row (row_in columns d) (rows_in columns ds)
