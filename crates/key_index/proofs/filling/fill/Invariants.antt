use Rattle.std.proofs.Common.{◌≡◌, ◌+◌, take}
use Rattle.key_index.specs.Lists.{IsTableOf, SameCols, set_of}
use Rattle.key_index.proofs.filling.fill.Given as goal

abbrev pub invariant-loop-row : goal.invariant-loop-row
invariant-loop-row g l =
    IsTableOf (set_of (take l.row-index l.rows)) l.indexes.items
    × SameCols l.fn.indexes.items l.indexes.items
    × (l.walked ≡ l.fn.walked + l.row-index)
