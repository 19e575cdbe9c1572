-- What holds of the text of rows.
use Rattle.std.specs.Prelude.{◌≡◌, ◌≢◌, ◌&&◌, Bool, true, not, [], Ok}
use Rattle.std.specs.List.{list_all}
use Rattle.std.specs.FinMap as finmap
use Rattle.std.specs.Str.{is_utf8}
use Rattle.plain_values.specs.Bytes.{is_name, is_text}
use Rattle.plain_values.specs.Value.{is_nullable}
use Rattle.plain_values.specs.Row.{Row}
use Rattle.plain_values.specs.declared.value.Value.{Value}
use Rattle.plain_values.specs.declared.value.Value.TheVariants.{Null, Int, Text, Flag}
use Rattle.lens_specs.specs.Common.{Columns, Fits, Rows, has}
use Rattle.grammar_specs.specs.Writable.{is_literal}
use Rattle.csv_specs.specs.Sheets.{sheet, unsheet}

-- null, a number of 64 bits, a text in UTF-8, or a truth value
abbrev pub is_right : Value → Bool
is_right Null = true
is_right (Int z) = is_literal (Int z)
is_right (Text bytes) = is_utf8 bytes && is_text bytes
is_right (Flag b) = true

-- names and values as the product has them; the types keep it so
pub record AreRight (columns : Columns) (rows : Rows) : Type 0 where
  pub names : list_all is_name (finmap.keys columns) ≡ true
  pub values : (row : Row) → has rows row ≡ true → list_all is_right (finmap.values row) ≡ true

-- the rows fit the columns, of which there is one or more, and none may be null
pub record IsSheetOf (columns : Columns) (rows : Rows) : Type 0 where
  pub some : finmap.keys columns ≢ []
  pub plain : list_all (λ c. not (is_nullable c.1)) (finmap.entries columns) ≡ true
  pub fit : (row : Row) → has rows row ≡ true → Fits columns row
  pub right : AreRight columns rows

-- the text of such rows reads back as them
abbrev pub SheetsReadBack : Type 0
SheetsReadBack = (columns : Columns) (rows : Rows) → IsSheetOf columns rows → unsheet columns (sheet columns rows) ≡ Ok rows
