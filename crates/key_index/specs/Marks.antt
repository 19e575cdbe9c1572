-- Keys that are marked, by their hashes.
use Rattle.std.specs.Prelude.{◌≡◌, ◌<◌, ℕ, Bool, true, List, length, slice_index_or}
use Rattle.std.specs.BTreeSet.{contains}
use Rattle.std.specs.Ordering.{nat_cmp}
use Rattle.plain_values.specs.Row.{Row}
use Rattle.key_index.specs.Key.{Cells, hash_key, key_of}
use Rattle.key_index.specs.declared.index.Index.{Index}
use Rattle.key_index.specs.declared.marks.Marks.{Marks}

-- whether keys with this hash are marked
abbrev pub is_marked : Marks → ℕ → Bool
is_marked marks hash = contains nat_cmp marks.hashes hash

-- what was marked is so still
abbrev pub StayMarked : Marks → Marks → Type 0
StayMarked old new = (hash : ℕ) → is_marked old hash ≡ true → is_marked new hash ≡ true

-- each of the keys is marked
abbrev pub AreMarked : Marks → List Cells → Type 0
AreMarked marks keys = (i : ℕ) (k : Cells) → i < length keys → is_marked marks (hash_key (slice_index_or keys i k)) ≡ true

-- the row's key in each index is marked
abbrev pub HasMarks : Marks → List Index → Row → Type 0
HasMarks marks indexes row = (i : ℕ) (d : Index) → i < length indexes
    → is_marked marks (hash_key (key_of (slice_index_or indexes i d).cols row)) ≡ true
