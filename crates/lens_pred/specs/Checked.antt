-- What the check of a predicate against columns answers.
use Rattle.std.specs.Prelude.{Option, Some, None, Result, Ok, Err}
use Rattle.lens_specs.specs.Common.{Columns, Name, Predicate, unknown_name, unlike_kinds}
use Rattle.lens_pred.specs.declared.checking.PredFault.{PredFault}
use Rattle.lens_pred.specs.declared.checking.PredFault.TheVariants.{UnknownColumn, PredKind}

-- an unknown name first, and then unlike kinds
abbrev pub fault_first : Option Name → Option Name → Result (Unit {0}) PredFault
fault_first (Some n) later = Err (UnknownColumn n)
fault_first None (Some n) = Err (PredKind n)
fault_first None None = Ok tt

-- the first name that is no column, or else the column of the first comparison of unlike kinds
abbrev pub checked : Columns → Predicate → Result (Unit {0}) PredFault
checked U P = fault_first (unknown_name U P) (unlike_kinds U P)
