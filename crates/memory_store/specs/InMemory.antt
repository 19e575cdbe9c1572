-- Tables in memory, and changes that are made one after another.
use Rattle.std.specs.Prelude.{List, [], ◌∷◌}
use Rattle.std.specs.Coded.{Coded, coded_list, coded_ℕ}
use Rattle.std.specs.FinMap as finmap
use Rattle.plain_values.specs.Order.{bytes_cmp}
use Rattle.plain_values.specs.SortedSet as set
use Rattle.plain_values.specs.Row.{Row}
use Rattle.lens_specs.specs.Common.{TableDelta, new_view, Change, Kept, changed, rows_at, Rows}
pub use Rattle.lens_specs.specs.Keeping.{with_deltas}
use Rattle.row_sets.specs.Codes.{coded_rows}
pub use Rattle.signed_delta.specs.Tables.{table_delta}

-- the rows of each table
abbrev pub Tables : Type 0
Tables = finmap.FinMap bytes_cmp Rows

abbrev pub coded_tables : Coded Tables
coded_tables = finmap.code (coded_list coded_ℕ) coded_rows

-- the contents after each of the changes
abbrev pub after : List Change → Kept → Kept
after [] kept = kept
after (change ∷ changes) kept = after changes (changed change kept)

-- the tables after the difference of one of them
abbrev pub table_after : TableDelta → Tables → Tables
table_after change tables = finmap.insert tables change.table (new_view (rows_at tables change.table) change.delta)

-- the rows with each of these
abbrev pub with_rows : List Row → Rows → Rows
with_rows [] M = M
with_rows (row ∷ rows) M = with_rows rows (set.insert M row)

-- the rows without each of these
abbrev pub without_rows : List Row → Rows → Rows
without_rows [] M = M
without_rows (row ∷ rows) M = without_rows rows (set.remove M row)
