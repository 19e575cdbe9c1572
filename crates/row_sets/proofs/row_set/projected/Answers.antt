use Rattle.std.proofs.Common.{◌∙◌, ap, arith, map}
use Rattle.plain_values.proofs.Common.{restrict, take_all}
use Rattle.row_sets.proofs.row_set.projected.Goals as goal

pub returns : goal.returns
returns c = c.loop-row.invariant ∙ ap (map (restrict c.args.columns.now)) (take_all c.loop-row.row-index c.args.rows.now (omega arith))
