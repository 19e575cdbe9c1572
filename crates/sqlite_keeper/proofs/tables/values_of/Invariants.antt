use Rattle.std.proofs.Common.{◌≡◌, drop, length}
use Rattle.sqlite_keeper.specs.RowCells.{values_from}
use Rattle.sqlite_keeper.proofs.RowsRead.{with_rest}
use Rattle.sqlite_keeper.proofs.tables.values_of.Given as goal

-- the values so far stand before those in the columns that are left
abbrev pub invariant-loop-column : goal.invariant-loop-column
invariant-loop-column l = record {
  read : with_rest l.values.items (values_from (drop l.column-index l.columns) l.cells l.place) ≡ values_from l.columns l.cells 0;
  len : length l.values.items ≡ l.column-index;
}
