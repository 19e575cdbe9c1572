-- What a definition adds to the tables.
use Rattle.std.specs.Prelude.{ℕ, Option, Some, None}
use Rattle.std.specs.FinMap as finmap
use Rattle.plain_values.specs.Order.{bytes_cmp}
use Rattle.plain_values.specs.SortedSet as set
use Rattle.lens_specs.specs.Common.{Lens, Tables, sort_of, Name}

-- the tables with the one that is defined, if it is one: it has the columns of its lens, and no rows
abbrev pub tables_with : Option Name → Lens → Tables → Tables
tables_with None lens tables = tables
tables_with (Some name) lens tables = finmap.insert tables name (record { columns = (sort_of lens).columns; rows = set.empty })

-- the last changes once the version made the table, if there is one
abbrev pub last_with : Option Name → ℕ → finmap.FinMap bytes_cmp ℕ → finmap.FinMap bytes_cmp ℕ
last_with None version last = last
last_with (Some name) version last = finmap.insert last name version
