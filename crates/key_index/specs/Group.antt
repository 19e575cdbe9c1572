-- The rows of one key of an index.
use Rattle.plain_values.specs.SortedSet as set
use Rattle.plain_values.specs.Row.{Row}
use Rattle.lens_specs.specs.Relation.{Rows}
use Rattle.key_index.specs.declared.group.Members.{Members}
use Rattle.key_index.specs.declared.group.Members.TheVariants.{Empty, One, Two, Few, Several}

-- the set of one row
abbrev pub singleton : Row → Rows
singleton row = set.insert set.empty row

-- the set of two rows, which may be the same
abbrev pub pair : Row → Row → Rows
pair one other = set.insert (singleton one) other

-- the rows that are held
abbrev pub rows_in : Members → Rows
rows_in Empty = set.empty
rows_in (One row) = singleton row
rows_in (Two one other) = pair one other
rows_in (Few rows) = rows
rows_in (Several rows) = rows
