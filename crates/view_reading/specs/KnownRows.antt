-- Rows that are known, and the parts of others that are among them.
use Rattle.std.specs.Prelude.{◌≡◌, ◌++◌, ◌||◌, Bool, true, false, List, [], ◌∷◌, length}
use Rattle.std.specs.List.{Contains}
use Rattle.std.specs.Ordering.{eq_by_cmp}
use Rattle.plain_values.specs.Row.{row_cmp, Row}
use Rattle.plain_values.specs.declared.value.Value.{Value}
use Rattle.lens_specs.specs.Names.{Name, Names}
use Rattle.lens_laws.specs.Finds.{IsOver}
use Rattle.row_sets.specs.Members.{is_in}
use Rattle.view_reading.specs.declared.differing.Parts.{Parts}

-- each row of the list has a value in just these columns
abbrev pub AreOver : Names → List Row → Type 0
AreOver C rows = (r : Row) → Contains rows r → IsOver C r

-- each pair of the first list is in the second
abbrev pub AreAmong : List (Name × Value) → List (Name × Value) → Type 0
AreAmong some all = (p : Name × Value) → Contains some p → Contains all p

-- the rows at the marked places
abbrev pub marked : List Bool → List Row → List Row
marked [] rows = []
marked (b ∷ bs) [] = []
marked (true ∷ bs) (r ∷ rows) = r ∷ marked bs rows
marked (false ∷ bs) (r ∷ rows) = marked bs rows

-- and those at the other places
abbrev pub unmarked : List Bool → List Row → List Row
unmarked [] rows = []
unmarked (b ∷ bs) [] = []
unmarked (true ∷ bs) (r ∷ rows) = unmarked bs rows
unmarked (false ∷ bs) (r ∷ rows) = r ∷ unmarked bs rows

-- the parts: the known rows that are parts, and the others
abbrev pub parts_in : Parts → List Row → List Row
parts_in p known = marked p.are_parts.items known ++ p.others.items

-- these are the parts, apart from their order and their number
abbrev pub AreParts : List Row → Parts → List Row → Type 0
AreParts known p rows = (length p.are_parts.items ≡ length known) × ((q : Row) → is_in (parts_in p known) q ≡ is_in rows q)

-- with this row, the parts are the new ones
abbrev pub IsPartToo : List Row → Parts → Parts → Row → Type 0
IsPartToo known old new r =
    (length new.are_parts.items ≡ length known) × ((q : Row) → is_in (parts_in new known) q ≡ (is_in (parts_in old known) q || eq_by_cmp row_cmp q r))
