use Rattle.std.proofs.Common.{◌≡◌, ◌++◌, map}
use Rattle.plain_values.proofs.Common.{into_iter_items}
use Rattle.signed_delta.specs.Tables.{table_delta}
use Rattle.database_opening.specs.Openings.{filling}
use Rattle.database_opening.proofs.opening.fillings.Given as goal

-- those that came are filled, and with those that are left they are all
abbrev pub invariant-loop-kept : goal.invariant-loop-kept
invariant-loop-kept l = record {
  made : map table_delta l.deltas.items ≡ map filling l.yielded;
  whole : l.yielded ++ into_iter_items l.kept-iterator ≡ l.fn.tables.items;
}
