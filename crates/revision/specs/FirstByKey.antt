-- The first row for each key.
use Rattle.std.specs.Prelude.{◌≡◌, ℕ, List}
use Rattle.std.specs.BTreeMap.{BTreeMap, get}
use Rattle.std.specs.List.{position_from}
use Rattle.std.specs.Ordering.{is_eq}
use Rattle.plain_values.specs.Part.{restrict}
use Rattle.plain_values.specs.Row.{row_cmp, Row}
use Rattle.lens_specs.specs.Names.{Names}

-- the map has for each key the place of the first row with these values in the columns
abbrev pub IsFirstByKey : Names → List Row → BTreeMap Row ℕ → Type 0
IsFirstByKey C rows places = (key : Row) → get row_cmp places key ≡ position_from (λ r. is_eq (row_cmp (restrict C r) key)) 0 rows
