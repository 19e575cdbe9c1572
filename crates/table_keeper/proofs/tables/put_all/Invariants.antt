use Rattle.std.proofs.Common.{◌≡◌, map}
use Rattle.table_keeper.specs.Changes.{names_of}
use Rattle.table_keeper.specs.Places.{entry_of, rows_in, with_entries}
use Rattle.table_keeper.proofs.tables.put_all.Given as goal

abbrev pub invariant-loop-placed : goal.invariant-loop-placed
invariant-loop-placed l = record {
  names : names_of l.tables ≡ names_of l.fn.tables;
  rows : rows_in l.tables ≡ with_entries (map entry_of l.yielded) (rows_in l.fn.tables);
}
