use Rattle.std.proofs.Common.{◌≡◌, ◌+◌, drop, take, length}
use Rattle.plain_values.specs.SortedSet as set
use Rattle.key_index.specs.Lists.{AreKeyed, IsTableOf, SameCols, rows_of}
use Rattle.key_index.proofs.keyed.take_behind.Given as goal

-- what is left behind the first still goes
abbrev pub invariant-loop : goal.invariant-loop
invariant-loop l =
    (length l.gone.items + l.counter ≡ length l.fn.gone.items + l.first)
    × (take l.first l.gone.items ≡ take l.first l.fn.gone.items)
    × (set.difference l.rows (rows_of (drop l.first l.gone.items)) ≡ set.difference l.fn.rows (rows_of (drop l.first l.fn.gone.items)))
    × AreKeyed l.indexes.items l.gone.items
    × (IsTableOf l.fn.rows l.fn.indexes.items → IsTableOf l.rows l.indexes.items)
    × SameCols l.fn.indexes.items l.indexes.items
