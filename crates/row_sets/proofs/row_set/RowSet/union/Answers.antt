use Rattle.plain_values.proofs.Common.{row_cmp_total, row_cmp-IsAntisymmetric, own_keys_rise, union_made}
use Rattle.row_sets.proofs.row_set.RowSet.union.Goals as goal

pub union-requires-clause-left : goal.union-requires-clause-left
union-requires-clause-left c = own_keys_rise row_cmp_total row_cmp-IsAntisymmetric c.args.self.now _ c.rows.ensures

pub union-requires-clause-right : goal.union-requires-clause-right
union-requires-clause-right c = own_keys_rise row_cmp_total row_cmp-IsAntisymmetric c.args.other.now _ c.rows-2.ensures

pub returns : goal.returns
returns c = union_made row_cmp_total row_cmp-IsAntisymmetric c.args.self.now c.args.other.now _ _ _ c.rows.ensures c.rows-2.ensures c.in_ok-union.ensures.members
