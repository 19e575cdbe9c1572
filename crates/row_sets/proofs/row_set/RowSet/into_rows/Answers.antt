use Rattle.std.proofs.Common.{sym, ap, ◌∙◌}
use Rattle.plain_values.proofs.Common.{row_cmp_total, items, items-from_list}
use Rattle.row_sets.proofs.row_set.RowSet.into_rows.Goals as goal

pub returns : goal.returns
returns c = sym (items-from_list row_cmp_total _ c.self.invariant) ∙ ap items c.self.view_is
