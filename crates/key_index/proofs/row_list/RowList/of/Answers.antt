use Rattle.std.proofs.Common.{ap, ◌∙◌}
use Rattle.plain_values.proofs.Common.{row_cmp_total, row_cmp-IsAntisymmetric, items_rise}
use Rattle.plain_values.specs.SortedSet as set
use Rattle.key_index.proofs.row_list.RowList.of.Goals as goal

pub invariant_of-result : goal.invariant_of-result
invariant_of-result c = items_rise row_cmp_total row_cmp-IsAntisymmetric c.args.rows c.into_rows.result.items c.into_rows.ensures

pub returns : goal.returns
returns c = ap set.from_list c.into_rows.ensures ∙ set.from_list-items row_cmp_total row_cmp-IsAntisymmetric c.args.rows
