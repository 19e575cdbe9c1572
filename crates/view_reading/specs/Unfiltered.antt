-- Rows that are still to be tested.
use Rattle.std.specs.Prelude.{Bool, true, List, None, Option, Some, filter, option_map}
use Rattle.plain_values.specs.Row.{Row}
use Rattle.lens_specs.specs.Predicate.{Predicate, holds}
use Rattle.view_reading.specs.declared.unfiltered.Unfiltered.{Unfiltered}

-- whether the predicate holds on the row, if there is one
abbrev pub passes : Option Predicate → Row → Bool
passes None r = true
passes (Some P) r = holds P r

-- the rows that pass
abbrev pub passing : Unfiltered → List Row
passing u = filter (passes (option_map (λ p. p.now) u.pred)) u.rows.items
