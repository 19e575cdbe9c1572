-- Rows that a selection shows, and rows that it hides.
use Rattle.std.specs.Prelude.{Bool, true, false, not}
use Rattle.plain_values.specs.Row.{Row}
use Rattle.lens_specs.specs.Predicate.{Predicate, holds}

-- whether the predicate holds on the row, or whether it does not
abbrev pub is_shown : Predicate → Bool → Row → Bool
is_shown P true row = holds P row
is_shown P false row = not (holds P row)
