-- Tables that are put among others.
use Rattle.std.specs.Prelude.{is_some, if◌then◌else◌}
use Rattle.std.specs.FinMap as finmap
use Rattle.plain_values.specs.Order.{bytes_cmp}
use Rattle.lens_specs.specs.Relation.{Name, Rows}

-- the tables with one more, unless one of its name is there
abbrev pub with_new : finmap.FinMap bytes_cmp Rows → Name → Rows → finmap.FinMap bytes_cmp Rows
with_new tables name rows = if is_some (finmap.get tables name) then tables else finmap.insert tables name rows
