use Rattle.std.proofs.Common.{take}
use Rattle.key_index.specs.Lists.{IsTableOf, SameCols, rows_of}
use Rattle.key_index.proofs.filling.indexes_of.Given as goal

-- the indexes are of the rows that were gone through
abbrev pub invariant-loop-keyed : goal.invariant-loop-keyed
invariant-loop-keyed l = IsTableOf (rows_of (take l.keyed-index l.list)) l.made.items × SameCols l.indexes l.made.items
