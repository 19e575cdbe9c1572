use Rattle.plain_values.proofs.Common.{row_cmp_total, row_cmp-IsAntisymmetric, items_rise, own_keys_rise, filter_rises, difference_made}
use Rattle.row_sets.proofs.row_set.RowSet.minus.Goals as goal

pub difference-requires-clause-list : goal.difference-requires-clause-list
difference-requires-clause-list c = own_keys_rise row_cmp_total row_cmp-IsAntisymmetric c.args.self.now _ c.rows.ensures

pub difference-requires-clause-keys : goal.difference-requires-clause-keys
difference-requires-clause-keys c = items_rise row_cmp_total row_cmp-IsAntisymmetric c.args.other.now _ c.rows-2.ensures

pub invariant_of-result : goal.invariant_of-result
invariant_of-result c = filter_rises row_cmp_total row_cmp-IsAntisymmetric c.args.self.now _ _ _ c.rows.ensures c.in_ok-difference.ensures

pub returns : goal.returns
returns c = difference_made row_cmp_total row_cmp-IsAntisymmetric c.args.self.now c.args.other.now _ _ _ c.rows.ensures c.rows-2.ensures c.in_ok-difference.ensures
