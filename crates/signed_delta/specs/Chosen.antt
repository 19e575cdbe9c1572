-- Rows that a relation has, or that it lacks.
use Rattle.std.specs.Prelude.{Bool, true, false, not}
use Rattle.plain_values.specs.Row.{Row}
use Rattle.lens_specs.specs.Relation.{Rows, has}

-- whether M has the row, or whether it lacks it
abbrev pub is_chosen : Rows → Bool → Row → Bool
is_chosen M true row = has M row
is_chosen M false row = not (has M row)
