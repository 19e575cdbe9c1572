use Rattle.std.proofs.Common.{◌≡◌, map}
use Rattle.plain_values.proofs.Common.{deref_pair}
use Rattle.table_keeper.specs.Changes.{rows_of}
use Rattle.memory_store.proofs.row_trees.RowTrees.tables.Given as goal

-- the tables so far stand in their order
abbrev pub invariant-loop-table : goal.invariant-loop-table
invariant-loop-table l = map rows_of l.tables.items ≡ map deref_pair l.yielded
