-- The rows of a text, as the code has them.
use Rattle.std.specs.Prelude.{◌≡◌, ℕ, List, None, Some, Result, Ok, Err}
use Rattle.lens_specs.specs.Common.{Columns, Rows}
use Rattle.lens_laws.specs.Finds.{AllFit}
use Rattle.csv_specs.specs.Sheets.{unsheet}
use Rattle.server_specs.specs.Exporting.{first_nullable}
use Rattle.view_changes.specs.declared.sheets.SheetFault.{SheetFault}
use Rattle.view_changes.specs.declared.sheets.SheetFault.TheVariants as fault

-- No column may be null, and the rows are those that the text says, which fit the columns; or the least column that may be null is
-- told, or else the first wrong record, unless memory ran out.
abbrev pub IsSheetOf : Columns → List ℕ → Result Rows SheetFault → Type 0
IsSheetOf U text (Ok rows) = (first_nullable U ≡ None) × (unsheet U text ≡ Ok rows) × AllFit U rows
IsSheetOf U text (Err (fault.NullableColumn col)) = first_nullable U ≡ Some col
IsSheetOf U text (Err (fault.BadRecord place)) = (first_nullable U ≡ None) × (unsheet U text ≡ Err place)
IsSheetOf U text (Err fault.NoMemory) = Unit {0}
