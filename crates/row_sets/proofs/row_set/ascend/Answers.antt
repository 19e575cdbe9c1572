use Rattle.plain_values.proofs.Common.{row_cmp_total}
use Rattle.row_sets.proofs.Rising.{ascend_is}
use Rattle.row_sets.proofs.row_set.ascend.Goals as goal

pub returns : goal.returns
returns c = ascend_is row_cmp_total c.args.rows.now c.is_sorted.result c.is_sorted.ensures.cases
