use Rattle.std.proofs.Common.{◌≡◌, ◌<◌, ℕ, length, slice_index_or}
use Rattle.key_index.specs.declared.index.Index.{Index}
use Rattle.key_index.specs.Key.{Cells, key_of}
use Rattle.key_index.proofs.keyed.with_keys.Given as goal

abbrev pub invariant-loop-index : goal.invariant-loop-index
invariant-loop-index l =
    (length l.keys.items ≡ l.index-index)
    × ((i : ℕ) (d : Index) (k : Cells) → i < l.index-index → slice_index_or l.keys.items i k ≡ key_of (slice_index_or l.indexes i d).cols l.row)
