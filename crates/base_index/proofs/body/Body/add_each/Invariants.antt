use Rattle.std.proofs.Common.{◌≡◌, take}
use Rattle.plain_values.specs.SortedSet as set
use Rattle.key_index.proofs.Common.{set_of}
use Rattle.base_index.specs.Parts.{IsWhole, Keeps, parts_of, rows_next}
use Rattle.base_index.proofs.body.Body.add_each.Given as goal

abbrev pub invariant-loop-row : goal.invariant-loop-row
invariant-loop-row l =
    IsWhole (parts_of l.self)
    × (rows_next (parts_of l.self) ≡ set.union (rows_next (parts_of l.fn.self)) (set_of (take l.row-index l.list)))
    × Keeps (parts_of l.fn.self) (parts_of l.self)
