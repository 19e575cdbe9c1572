use Rattle.std.proofs.Common.{◌≡◌, drop}
use Rattle.memory_store.specs.InMemory.{without_rows}
use Rattle.memory_store.proofs.tree_rows.remove_each.Given as goal

-- once the rows that are left are taken out, all are
abbrev pub invariant-loop-row : goal.invariant-loop-row
invariant-loop-row l = without_rows (drop l.row-index l.rows) l.tree ≡ without_rows l.rows l.fn.tree
