use Rattle.std.proofs.Common.{◌≡◌, ◌+◌, length}
use Rattle.plain_values.specs.SortedSet as set
use Rattle.key_index.proofs.Common.{AreKeyed, IsTableOf, SameCols, rows_of}
use Rattle.base_index.proofs.settling.take_hidden.Given as goal

-- the hidden ones of what is left still go
abbrev pub invariant-loop : goal.invariant-loop
invariant-loop l =
    (length l.remove.items + l.counter ≡ length l.fn.remove.items)
    × (set.difference l.rows (set.intersection l.hidden (rows_of l.remove.items)) ≡ set.difference l.fn.rows (set.intersection l.fn.hidden (rows_of l.fn.remove.items)))
    × (set.difference l.hidden (rows_of l.remove.items) ≡ set.difference l.fn.hidden (rows_of l.fn.remove.items))
    × AreKeyed l.indexes.items l.remove.items
    × (IsTableOf l.fn.rows l.fn.indexes.items → IsTableOf l.rows l.indexes.items)
    × SameCols l.fn.indexes.items l.indexes.items
