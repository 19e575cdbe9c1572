-- The needs of a lens, as pairs of a table and a set of columns.
use Rattle.lens_specs.specs.Names.{Name, Names}
use Rattle.base_index.specs.declared.need.Need.{Need}

-- the table, and the columns by which it is to be asked
abbrev pub pair_of : Need → Name × Names
pair_of n = (n.table, n.cols)
