use Rattle.std.proofs.Common.{◌≡◌, take}
use Rattle.table_keeper.specs.Places.{rows_in}
use Rattle.memory_store.proofs.row_trees.RowTrees.of.Given as goal

-- the tables so far are there
abbrev pub invariant-loop-kept : goal.invariant-loop-kept
invariant-loop-kept l = l.trees ≡ rows_in (take l.kept-index l.tables)
