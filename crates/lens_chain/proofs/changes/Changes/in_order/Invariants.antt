use Rattle.std.proofs.Common.{◌≡◌, ◌++◌, map}
use Rattle.signed_delta.specs.Tables.{table_delta}
use Rattle.lens_chain.specs.Changed.{in_order, of_entry}
use Rattle.lens_chain.proofs.changes.Changes.in_order.Given as goal

-- with the differences that are left, those that are there are all
abbrev pub invariant-loop-table : goal.invariant-loop-table
invariant-loop-table l = map table_delta l.list.items ++ map of_entry l.table-iterator ≡ in_order l.fn.self
