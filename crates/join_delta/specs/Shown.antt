-- Which right parts the edited view of a join still shows.
use Rattle.std.specs.Prelude.{Bool, not, List}
use Rattle.std.specs.List.{list_any}
use Rattle.plain_values.specs.Part.{override, restrict}
use Rattle.plain_values.specs.SortedSet as set
use Rattle.plain_values.specs.Row.{Row}
use Rattle.lens_specs.specs.Common.{Names, Rows, has}
use Rattle.lens_laws.specs.KeyedDeltas.{find_by}

-- whether one of these left rows, pasted with the right part, is not removed
abbrev pub one_stays : Rows → Row → List Row → Bool
one_stays removed part rows = list_any (λ row. not (has removed (override part row))) rows

-- whether a left row that agrees with the right part on the shared columns joins it in a row that is not removed
abbrev pub is_shown : Names → Rows → Rows → Row → Bool
is_shown shared M removed part = one_stays removed part (set.items (find_by shared (restrict shared part) M))
