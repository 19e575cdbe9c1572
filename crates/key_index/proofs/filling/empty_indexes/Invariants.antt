use Rattle.std.proofs.Common.{◌≡◌, ◌<◌, ℕ, length, slice_index_or}
use Rattle.plain_values.specs.SortedSet as set
use Rattle.key_index.specs.Key.{Cells}
use Rattle.key_index.specs.Index.{group_at}
use Rattle.key_index.specs.declared.index.Index.{Index}
use Rattle.key_index.proofs.filling.empty_indexes.Given as goal

-- there is an empty index for each that was gone through
abbrev pub invariant-loop-index : goal.invariant-loop-index
invariant-loop-index l =
    (length l.made.items ≡ l.index-index)
    × ((i : ℕ) (d e : Index) → i < l.index-index → (slice_index_or l.made.items i d).cols ≡ (slice_index_or l.indexes i e).cols)
    × ((i : ℕ) (d : Index) (key : Cells) → i < l.index-index → group_at (slice_index_or l.made.items i d) key ≡ set.empty)
