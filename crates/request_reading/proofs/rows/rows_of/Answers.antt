use Rattle.std.proofs.Common.{◌∙◌, ap}
use Rattle.plain_values.specs.SortedSet as set
use Rattle.request_reading.proofs.Columns.{columns_named}
use Rattle.request_reading.proofs.rows.rows_of.Goals as goal

pub rows_in-requires : goal.rows_in-requires
rows_in-requires c = ap set.items c.in_ok-names.ensures ∙ columns_named c.args.columns.now
