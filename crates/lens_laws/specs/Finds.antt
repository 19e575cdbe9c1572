-- Rows over columns, and rows put together with what look-ups give for them.
use Rattle.std.specs.Prelude.{◌≡◌, true, map, flat_map, is_some}
use Rattle.plain_values.specs.SortedSet as set
use Rattle.plain_values.specs.Row.{Row}
use Rattle.lens_specs.specs.Common.{Name, Names, at, Columns, Fits, Rows, has}

-- each row has the columns
abbrev pub AllFit : Columns → Rows → Type 0
AllFit U M = (r : Row) → has M r ≡ true → Fits U r

-- the row has a value in just these columns
abbrev pub IsOver : Names → Row → Type 0
IsOver C k = (c : Name) → is_some (at k c) ≡ set.contains C c

-- each row put together, by f, with every row that a look-up gives for it
unfoldable pub matched : (Row → Row → Row) → (Row → Rows) → Rows → Rows
matched f look M = set.from_list (flat_map (λ r. map (f r) (set.items (look r))) (set.items M))
