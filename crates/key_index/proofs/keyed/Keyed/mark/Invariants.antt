use Rattle.std.proofs.Common.{◌≡◌, ◌<◌, ℕ, true, slice_index_or}
use Rattle.key_index.specs.Key.{Cells, hash_key}
use Rattle.key_index.specs.Marks.{StayMarked, is_marked}
use Rattle.key_index.proofs.keyed.Keyed.mark.Given as goal

-- the keys that were gone through are marked
abbrev pub invariant-loop-key : goal.invariant-loop-key
invariant-loop-key l =
    ((i : ℕ) (k : Cells) → i < l.key-index → is_marked l.marks (hash_key (slice_index_or l.self.keys.items i k)) ≡ true) × StayMarked l.fn.marks l.marks
