use Rattle.std.proofs.Common.{◌≡◌, drop, map}
use Rattle.memory_store.specs.InMemory.{table_delta, with_deltas}
use Rattle.memory_store.proofs.row_trees.RowTrees.change.Given as goal

-- once the differences that are left are made, all are
abbrev pub invariant-loop-change : goal.invariant-loop-change
invariant-loop-change l = with_deltas (map table_delta (drop l.change-index l.changes)) l.self ≡ with_deltas (map table_delta l.changes) l.fn.self
