use Rattle.std.proofs.Common.{◌≡◌, ◌+◌, drop, take, length}
use Rattle.plain_values.specs.SortedSet as set
use Rattle.key_index.proofs.Common.{rows_of}
use Rattle.base_index.proofs.listing.show_behind.Given as goal

-- what is left behind the first still goes
abbrev pub invariant-loop : goal.invariant-loop
invariant-loop l =
    (length l.remove.items + l.counter ≡ length l.fn.remove.items + l.first)
    × (take l.first l.remove.items ≡ take l.first l.fn.remove.items)
    × (set.difference l.hidden (rows_of (drop l.first l.remove.items)) ≡ set.difference l.fn.hidden (rows_of (drop l.first l.fn.remove.items)))
