-- Where the values of pairs of rows stand, and parts of pairs that are made of them.
use Rattle.std.specs.Prelude.{◌≡◌, ℕ, List, None, Option, Some, cond, filter, flat_map, length, map as map_list, option_map, position, true, ◌==◌}
use Rattle.std.specs.List.{filter_map, list_any, slice_get}
use Rattle.std.specs.List.Sorted.{IsStrictlySortedBy}
use Rattle.std.specs.FinMap as map
use Rattle.std.specs.Ordering.{eq_by_cmp, is_eq}
use Rattle.plain_values.specs.Names.{Names}
use Rattle.plain_values.specs.Order.{bytes_cmp}
use Rattle.plain_values.specs.Part.{override, restrict}
use Rattle.plain_values.specs.Row.{Row, row_cmp}
use Rattle.plain_values.specs.SortedMap.{values_of}
use Rattle.plain_values.specs.SortedSet as set
use Rattle.plain_values.specs.declared.value.Value.{Value}
use Rattle.lens_values.specs.Paired.{paired}
use Rattle.lens_specs.specs.Common.{Rows, has}
use Rattle.row_sets.specs.Joins.{entry_cmp, with_key}
use Rattle.view_reading.specs.declared.pasting.Place.{Place}
use Rattle.view_reading.specs.declared.pasting.Place.TheVariants.{Left, Right}

-- the row has a value in each of these columns, and in no other
abbrev pub HasNames : Names → Row → Type 0
HasNames C r = set.items C ≡ map.keys r

-- the place of a column in rows with these columns
abbrev pub own_place : Names → List ℕ → Option ℕ
own_place C c = position (eq_by_cmp bytes_cmp c) (set.items C)

-- the place on the right, or else that on the left
abbrev pub either_place : Option ℕ → Option ℕ → Option Place
either_place own None = option_map Left own
either_place own (Some i) = Some (Right i)

-- the place of a column in pairs of rows, the left ones with the columns U and the right ones with V
abbrev pub place_in : Names → Names → List ℕ → Option Place
place_in U V c = either_place (own_place U c) (own_place V c)

-- the value at a place
abbrev pub value_at : List Value → List Value → Place → Option Value
value_at ms ns (Left i) = slice_get ms i
value_at ms ns (Right i) = slice_get ns i

-- the values at the places, under the columns, if there are as many, and else what the columns have in the pair
abbrev pub part_at : Names → List Place → Row → Row → Row
part_at C ps m n =
    let found = filter_map (value_at (values_of (map.entries m)) (values_of (map.entries n))) ps in
    cond (length found == length (set.items C)) (map.from_entries (paired C found)) (restrict C (override n m))

-- each of the rows has values in just these columns
abbrev pub AreNamed : Names → Rows → Type 0
AreNamed C M = (r : Row) → has M r ≡ true → HasNames C r

-- the entries are the rows, each after its part in the columns, in rising order
abbrev pub IsIndex : Names → List Row → List (Row × Row) → Type 0
IsIndex C rows entries =
    IsStrictlySortedBy entry_cmp entries × ((e : Row × Row) → list_any (eq_by_cmp entry_cmp e) entries ≡ list_any (eq_by_cmp entry_cmp e) (map_list (with_key C) rows))

-- the entries with the row's part in the columns
abbrev pub near_in : List (Row × Row) → Names → Row → List (Row × Row)
near_in entries C m = filter (λ e. is_eq (row_cmp e.0 (restrict C m))) entries

-- the parts, at the places, of each row with the rows of the entries that are near it
abbrev pub parts_by : Names → List Place → Names → List (Row × Row) → List Row → List Row
parts_by K ps C entries rows = flat_map (λ m. map_list (λ e. part_at K ps m e.1) (near_in entries C m)) rows
