use Rattle.std.proofs.Common.{◌≡◌, ◌<◌, ◌≤◌, ℕ, length, slice_index_or}
use Rattle.key_index.specs.Index.{IsTaken}
use Rattle.key_index.specs.declared.index.Index.{Index}
use Rattle.key_index.specs.Key.{Cells}
use Rattle.key_index.specs.Lists.{SameCols}
use Rattle.key_index.proofs.keyed.take_each.Given as goal

-- the first i indexes were gone through, and the others stay
abbrev pub invariant-loop-i : goal.invariant-loop-i
invariant-loop-i l =
    SameCols l.fn.indexes.items l.indexes.items
    × ((j : ℕ) (d e : Index) (k : Cells) → j < l.i → IsTaken (slice_index_or l.keyed.keys.items j k) l.keyed.row (slice_index_or l.fn.indexes.items j d) (slice_index_or l.indexes.items j e))
    × ((j : ℕ) (d e : Index) → l.i ≤ j → j < length l.fn.indexes.items → slice_index_or l.indexes.items j e ≡ slice_index_or l.fn.indexes.items j d)
