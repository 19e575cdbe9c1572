use Rattle.std.proofs.Common.{◌≡◌, drop}
use Rattle.memory_store.specs.InMemory.{with_rows}
use Rattle.memory_store.proofs.tree_rows.insert_each.Given as goal

-- once the rows that are left are put in, all are
abbrev pub invariant-loop-row : goal.invariant-loop-row
invariant-loop-row l = with_rows (drop l.row-index l.rows) l.tree ≡ with_rows l.rows l.fn.tree
