-- The unknown column of one dependency, and of a predicate by what is said of it.
use Rattle.std.specs.Prelude.{Option, Some, None, option_map, Result, Ok, Err}
use Rattle.lens_specs.specs.Common.{Columns, names, least_outside, Edge, Name, Refusal, or_else, unknown_column}
use Rattle.lens_pred.specs.declared.checking.PredFault.{PredFault}
use Rattle.lens_pred.specs.declared.checking.PredFault.TheVariants.{UnknownColumn, PredKind}

-- the least of the left side, or else of the right side
abbrev pub unknown_of_edge : Columns → Edge → Option Refusal
unknown_of_edge U e = or_else (option_map unknown_column (least_outside e.left (names U))) (option_map unknown_column (least_outside e.right (names U)))

-- the name that is unknown, if that is the fault
abbrev pub unknown_of_fault : PredFault → Option Name
unknown_of_fault (UnknownColumn name) = Some name
unknown_of_fault (PredKind name) = None

-- the name that is unknown, if that was said
abbrev pub unknown_said : Result (Unit {0}) PredFault → Option Name
unknown_said (Ok u) = None
unknown_said (Err fault) = unknown_of_fault fault
