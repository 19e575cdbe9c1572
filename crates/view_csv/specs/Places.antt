-- Where the fields of the columns stand in a record.
use Rattle.std.specs.Prelude.{◌≡◌, ℕ, Bool, false, List, map, length, Option, Some, None}
use Rattle.std.specs.Option.{option_and_then}
use Rattle.std.specs.FinMap as finmap
use Rattle.csv.specs.Records.{field_at}
use Rattle.plain_values.specs.declared.value.Kind.{Kind}
use Rattle.plain_values.specs.declared.value.Value.{Value}
use Rattle.lens_specs.specs.Common.{Columns, Name}
use Rattle.csv_specs.specs.Fields.{is_same, value_in}
use Rattle.csv_specs.specs.Sheets.{Record, all_there, values_in}

-- whether the field is there, and is the name
abbrev pub is_name_at : Name → Option (List ℕ) → Bool
is_name_at name None = false
is_name_at name (Some field) = is_same name field

-- the value of the kind that the field at the place stands for
abbrev pub value_at : Record → ℕ × Kind → Option Value
value_at fields place = option_and_then (value_in place.1) (field_at fields place.0)

-- the values at these places, if each is there
abbrev pub values_at : List (ℕ × Kind) → Record → Option (List Value)
values_at places fields = all_there (map (value_at fields) places)

-- the place of each column in records under the header, by rising columns, with its kind
pub record ArePlaces (columns : Columns) (header : Record) (places : List (ℕ × Kind)) : Type 0 where
  pub values : (fields : Record) → values_in columns header fields ≡ values_at places fields
  pub as_long : length places ≡ length header
  pub as_many : length places ≡ length (finmap.keys columns)
