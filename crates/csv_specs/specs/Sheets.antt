-- The text of rows as CSV, and the rows of a text.
use Rattle.std.specs.Prelude.{ℕ, suc, ◌&&◌, ◌==◌, Bool, List, [], ◌∷◌, map, flat_map, length, if◌then◌else◌, Option, Some, None, option_map, Result, Ok, Err}
use Rattle.std.specs.List.{list_all, list_any, zip}
use Rattle.std.specs.Option.{option_and_then}
use Rattle.std.specs.FinMap as finmap
use Rattle.csv.specs.Reading.{default_config, records, strip_bom}
use Rattle.csv.specs.Writing.{default_writer, row_text}
use Rattle.plain_values.specs.SortedSet as set
use Rattle.plain_values.specs.Row.{Row}
use Rattle.plain_values.specs.declared.value.Kind.{Kind}
use Rattle.plain_values.specs.declared.value.Value.{Value}
use Rattle.lens_specs.specs.Common.{Columns, Name, Rows}
use Rattle.csv_specs.specs.Fields.{field_of, is_same, value_in}

-- the fields of a record
abbrev pub Record : Type 0
Record = List (List ℕ)

-- ---- writing

-- the fields of a row, by rising columns
abbrev pub record_of : Row → Record
record_of row = map field_of (finmap.values row)

-- a record of the names, and one of each row
abbrev pub records_of : Columns → List Row → List Record
records_of columns rows = finmap.keys columns ∷ map record_of rows

-- the text of records
abbrev pub text_of : List Record → List ℕ
text_of rs = flat_map (row_text default_writer) rs

-- the text of the rows
unfoldable pub sheet : Columns → Rows → List ℕ
sheet columns rows = text_of (records_of columns (set.items rows))

-- ---- reading

-- the names of the columns, each once, in any order: as many fields as columns, with each name among them
abbrev pub is_header : Columns → Record → Bool
is_header columns header = (length header == length (finmap.keys columns)) && list_all (λ name. list_any (is_same name) header) (finmap.keys columns)

-- the field where the header has the name
abbrev pub field_under : Name → Record → Record → Option (List ℕ)
field_under name [] fields = None
field_under name (h ∷ header) [] = None
field_under name (h ∷ header) (field ∷ fields) = if is_same name h then Some field else field_under name header fields

-- the value of a column
abbrev pub value_under : Record → Record → Name × Kind → Option Value
value_under header fields column = option_and_then (value_in column.1) (field_under column.0 header fields)

-- all of them, if each is there
abbrev pub all_there : {A : Type 0} → List (Option A) → Option (List A)
all_there [] = Some []
all_there (None ∷ xs) = None
all_there (Some x ∷ xs) = option_map (λ ys. x ∷ ys) (all_there xs)

-- the values of the columns, by rising columns
abbrev pub values_in : Columns → Record → Record → Option (List Value)
values_in columns header fields = all_there (map (value_under header fields) (finmap.entries columns))

-- the row of these values, by rising columns
abbrev pub row_of : Columns → List Value → Row
row_of columns values = finmap.from_entries (zip (finmap.keys columns) values)

-- the row of a record, which has as many fields as the header
abbrev pub row_in : Columns → Record → Record → Option Row
row_in columns header fields = if length fields == length header then option_map (row_of columns) (values_in columns header fields) else None

-- the row of the record at a place in front of the others, or the place of the first wrong record
abbrev pub with_row : ℕ → Option Row → Result (List Row) ℕ → Result (List Row) ℕ
with_row n None others = Err n
with_row n (Some row) (Ok rows) = Ok (row ∷ rows)
with_row n (Some row) (Err m) = Err m

-- the rows of the records from a place on, or the place of the first that is wrong
abbrev pub rows_from : ℕ → Columns → Record → List Record → Result (List Row) ℕ
rows_from n columns header [] = Ok []
rows_from n columns header (r ∷ rs) = with_row n (row_in columns header r) (rows_from (suc n) columns header rs)

-- the set of the rows
abbrev pub as_set : Result (List Row) ℕ → Result Rows ℕ
as_set (Ok rows) = Ok (set.from_list rows)
as_set (Err n) = Err n

-- the rows under a header, or the place of the first wrong record
abbrev pub rows_of_records : Columns → List Record → Result Rows ℕ
rows_of_records columns [] = Err 0
rows_of_records columns (header ∷ rs) = if is_header columns header then as_set (rows_from 1 columns header rs) else Err 0

-- the rows of a text, or the number of its first wrong record
unfoldable pub unsheet : Columns → List ℕ → Result Rows ℕ
unsheet columns text = rows_of_records columns (records default_config (strip_bom text))
