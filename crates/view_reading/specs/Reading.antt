-- Reading a whole view: which rows a selection needs of a side of a join, and what it takes.
use Rattle.std.specs.Prelude.{ℕ, ◌+◌, cond}
use Rattle.plain_values.specs.SortedSet as set
use Rattle.lens_specs.specs.Common.{Lens, Tables, base, select, drop, rename, get, table, view_names, Predicate, holds, mentioned, Rows, those}
use Rattle.lens_specs.specs.Lens.{join}
use Rattle.lens_laws.specs.Work.{count_of}

-- the number of rows of the tables under the lens
abbrev pub rows_under : Lens → Tables → ℕ
rows_under (base t s) db = count_of (table db t)
rows_under (select P L) db = rows_under L db
rows_under (drop A X a L) db = rows_under L db
rows_under (rename A B L) db = rows_under L db
rows_under (join k A B) db = rows_under A db + rows_under B db

-- the rows that a selection above a join needs of a side: where the side shows each column that the predicate mentions, those on which it holds, and else all
abbrev pub rows_for : Predicate → Lens → Tables → Rows
rows_for P L db = cond (set.is_subset (mentioned P) (view_names L)) (those (holds P) (get L db)) (get L db)
