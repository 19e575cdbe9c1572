-- Rows with their keys in each index of a table, and what the indexes hold.
use Rattle.std.specs.Prelude.{◌≡◌, ◌<◌, ℕ, List, [], ◌∷◌, ◌++◌, map, length, slice_index_or}
use Rattle.std.proofs.Common.{◌⊎◌}
use Rattle.plain_values.specs.Names.{Names}
use Rattle.plain_values.specs.SortedSet as set
use Rattle.plain_values.specs.Row.{Row}
use Rattle.lens_specs.specs.Relation.{Rows}
use Rattle.key_index.specs.Index.{IsIndexOf}
use Rattle.key_index.specs.Key.{Cells, key_of}
use Rattle.key_index.specs.declared.index.Index.{Index}
use Rattle.key_index.specs.declared.keyed.Keyed.{Keyed}

-- the rows of a list
abbrev pub set_of : List Row → Rows
set_of rows = set.from_list rows

-- the rows that are listed
abbrev pub rows_of : List Keyed → Rows
rows_of list = set.from_list (map (λ k. k.row) list)

-- the columns of each index
abbrev pub cols_of : List Index → List Names
cols_of indexes = map (λ index. index.cols) indexes

-- each index is that of these rows
abbrev pub IsTableOf : Rows → List Index → Type 0
IsTableOf rows indexes =
    (i : ℕ) (d : Index) → i < length indexes → IsIndexOf rows (slice_index_or indexes i d)

-- each index is that of these rows, with the row or without it
abbrev pub IsMixed : Rows → Row → List Index → Type 0
IsMixed rows row indexes = (i : ℕ) (d : Index) → i < length indexes
    → IsIndexOf rows (slice_index_or indexes i d)
    ⊎ IsIndexOf (set.insert rows row) (slice_index_or indexes i d)

-- the row has its key in each index
pub record HasKeys (indexes : List Index) (keyed : Keyed) : Type 0 where
  pub many : length keyed.keys.items ≡ length indexes
  pub each : (i : ℕ) (d : Index) (k : Cells) → i < length indexes
      → slice_index_or keyed.keys.items i k ≡ key_of (slice_index_or indexes i d).cols keyed.row

-- each listed row has its keys
abbrev pub AreKeyed : List Index → List Keyed → Type 0
AreKeyed indexes list =
    (i : ℕ) (d : Keyed) → i < length list → HasKeys indexes (slice_index_or list i d)

-- the indexes go by the same columns
pub record SameCols (old new : List Index) : Type 0 where
  pub many : length new ≡ length old
  pub each : (i : ℕ) (d e : Index) → i < length old
      → (slice_index_or new i d).cols ≡ (slice_index_or old i e).cols

-- the row was listed at the end, with its keys
pub record IsListed (indexes : List Index) (row : Row) (old new : List Keyed) : Type 0 where
  pub keyed : Keyed
  pub same : keyed.row ≡ row
  pub keys : HasKeys indexes keyed
  pub list : new ≡ old ++ keyed ∷ []
