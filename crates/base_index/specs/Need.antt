-- Column sets by which tables are to be asked.
use Rattle.std.specs.Prelude.{ℕ, Bool, ◌&&◌, not, if◌then◌else◌, ◌==◌}
use Rattle.std.specs.Prelude.{List, [], ◌∷◌, ◌++◌, length}
use Rattle.plain_values.specs.SortedSet as set
use Rattle.lens_specs.specs.Common.{Name, Names, Rows}
pub use Rattle.key_index.specs.Cols.{same_name, same_names, has_cols}
use Rattle.base_index.specs.declared.need.Need.{Need}

-- whether the need asks this table for an index that is not there
abbrev pub is_fresh : Name → List Names → Need → Bool
is_fresh table indexes need = same_name need.table table && not (has_cols indexes need.cols)

-- the column sets of a table's indexes after the need
abbrev pub with_need : Name → Need → List Names → List Names
with_need table need indexes =
    if is_fresh table indexes need then indexes ++ need.cols ∷ [] else indexes

-- and after each of the needs
abbrev pub with_needs : Name → List Need → List Names → List Names
with_needs table [] indexes = indexes
with_needs table (need ∷ needs) indexes = with_needs table needs (with_need table need indexes)

-- how many rows of a table are walked for the needs: all where there is a new index, else none
abbrev pub rows_walked : Name → List Need → List Names → Rows → ℕ
rows_walked table needs indexes rows =
    if length (with_needs table needs indexes) == length indexes then 0 else length (set.items rows)
