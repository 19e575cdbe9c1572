use Rattle.std.proofs.Common.{◌≡◌, ◌++◌, map, take}
use Rattle.signed_delta.specs.Tables.{table_delta}
use Rattle.edit_batches.proofs.composing.add_names.Given as goal

abbrev pub invariant-loop-change : goal.invariant-loop-change
invariant-loop-change l = l.names.items ≡ l.fn.names.items ++ map (λ c. c.table) (map table_delta (take l.change-index l.list))
