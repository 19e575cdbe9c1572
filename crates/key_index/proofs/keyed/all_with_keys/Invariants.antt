use Rattle.std.proofs.Common.{◌≡◌, take}
use Rattle.key_index.specs.Lists.{AreKeyed, rows_of, set_of}
use Rattle.key_index.proofs.keyed.all_with_keys.Given as goal

-- the rows that were gone through are listed, with their keys
abbrev pub invariant-loop-row : goal.invariant-loop-row
invariant-loop-row l =
    (rows_of l.list.items ≡ set_of (take l.row-index l.rows)) × AreKeyed l.indexes l.list.items
