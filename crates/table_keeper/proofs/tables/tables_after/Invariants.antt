use Rattle.std.proofs.Common.{◌≡◌, take, map}
use Rattle.plain_values.proofs.Common.{AllByRecursion}
use Rattle.signed_delta.specs.Tables.{table_delta}
use Rattle.table_keeper.specs.Changes.{names_of}
use Rattle.table_keeper.specs.Places.{FitsAt, entry_after, entry_of, rows_in}
use Rattle.table_keeper.proofs.tables.tables_after.Given as goal

abbrev pub invariant-loop-change : goal.invariant-loop-change
invariant-loop-change l = record {
  fits : AllByRecursion (FitsAt (names_of l.tables)) l.all.items;
  entries : map entry_of l.all.items ≡ map (λ change. entry_after (rows_in l.tables) (table_delta change)) (take l.change-index l.changes);
}
