-- The union of columns, or its fault.
use Rattle.std.specs.Prelude.{ℕ, List, Option, Some, None, Result, Ok, Err}
use Rattle.plain_values.specs.Columns.{Columns, kinds_differ}
use Rattle.plain_values.specs.Part.{override}
use Rattle.lens_values.specs.declared.columns.ColumnsFault.{ColumnsFault}
use Rattle.lens_values.specs.declared.columns.ColumnsFault.TheVariants.{KindClash}

-- the columns of both, unless a shared one has two kinds
abbrev pub union_from : Option (List ℕ) → Columns → Columns → Result Columns ColumnsFault
union_from None U V = Ok (override U V)
union_from (Some c) U V = Err (KindClash c)

-- the columns of both, or the least shared one with two kinds
abbrev pub union_of : Columns → Columns → Result Columns ColumnsFault
union_of U V = union_from (kinds_differ U V) U V
