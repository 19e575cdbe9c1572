-- What an index holds.
use Rattle.std.specs.Prelude.{◌≡◌, Bool, if◌then◌else◌, unwrap_or}
use Rattle.std.specs.Ordering.{eq_by_cmp}
use Rattle.std.specs.BTreeMap.{get}
use Rattle.plain_values.specs.Names.{Names}
use Rattle.plain_values.specs.SortedSet as set
use Rattle.plain_values.specs.Row.{Row}
use Rattle.lens_specs.specs.Relation.{Rows}
use Rattle.key_index.specs.Key.{Cells, cells_cmp, key_cmp, key_of}
use Rattle.key_index.specs.declared.index.Index.{Index}

-- the rows under a key
abbrev pub group_at : Index → Cells → Rows
group_at index key = unwrap_or (get key_cmp index.groups key) set.empty

-- the row has this key
abbrev pub has_key : Names → Cells → Row → Bool
has_key cols key row = eq_by_cmp cells_cmp key (key_of cols row)

-- the index is that of these rows: under each key stand the rows that have it
abbrev pub IsIndexOf : Rows → Index → Type 0
IsIndexOf rows index = (key : Cells) → group_at index key ≡ set.filter (has_key index.cols key) rows

-- the row was added under the key
abbrev pub IsPut : Cells → Row → Index → Index → Type 0
IsPut key row old new = (q : Cells) → group_at new q
    ≡ (if eq_by_cmp cells_cmp key q then set.insert (group_at old q) row else group_at old q)

-- the row was taken out from under the key
abbrev pub IsTaken : Cells → Row → Index → Index → Type 0
IsTaken key row old new = (q : Cells) → group_at new q
    ≡ (if eq_by_cmp cells_cmp key q then set.remove (group_at old q) row else group_at old q)
