-- What is answered where a text gives no rows.
use Rattle.std.specs.Prelude.{◌≡◌}
use Rattle.server_specs.specs.Answer.{Answer, bad_record, nullable_column}
use Rattle.view_changes.specs.declared.sheets.SheetFault.{SheetFault}
use Rattle.view_changes.specs.declared.sheets.SheetFault.TheVariants as fault

-- the answer tells the fault, which is of no lack of memory
abbrev pub TellsSheet : Answer → SheetFault → Type 0
TellsSheet answer (fault.NullableColumn col) = answer ≡ nullable_column col
TellsSheet answer (fault.BadRecord place) = answer ≡ bad_record place
TellsSheet answer fault.NoMemory = ⊥
