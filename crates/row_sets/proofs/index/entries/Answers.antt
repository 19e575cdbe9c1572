use Rattle.std.proofs.Common.{◌∙◌, ap, arith, map}
use Rattle.plain_values.proofs.Common.{take_all}
use Rattle.row_sets.specs.Joins.{with_key}
use Rattle.row_sets.proofs.index.entries.Goals as goal

pub returns : goal.returns
returns c = c.loop-row.invariant ∙ ap (map (with_key c.args.cols.now)) (take_all c.loop-row.row-index c.args.rows.now (omega arith))
