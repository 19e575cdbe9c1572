-- How a wrong record is told.
use Rattle.std.specs.Prelude.{ℕ, Result, Ok, Err}
use Rattle.view_csv.specs.declared.fault.CsvFault.{CsvFault}
use Rattle.view_csv.specs.declared.fault.CsvFault.TheVariants.{BadRecord}

-- the place of a wrong record as a fault
abbrev pub told : {A : Type 0} → Result A ℕ → Result A CsvFault
told (Ok x) = Ok x
told (Err place) = Err (BadRecord place)
