use Rattle.std.proofs.Common.{◌≡◌, subst, map-id, IfOk}
use Rattle.plain_values.proofs.Common.{IsStrictlySortedBy, bytes_cmp, nat_list_cmp_total, exact, own_keys_rise, union_made}
use Rattle.lens_values.proofs.names.Names.union.Goals as goal

pub union-requires-clause-left : goal.union-requires-clause-left
union-requires-clause-left c = own_keys_rise nat_list_cmp_total exact c.args.self.now _ c.as_slice.ensures

pub union-requires-clause-right : goal.union-requires-clause-right
union-requires-clause-right c = own_keys_rise nat_list_cmp_total exact c.args.other.now _ c.as_slice-2.ensures

pub from_rising-requires : goal.from_rising-requires
from_rising-requires c = subst (IsStrictlySortedBy bytes_cmp) (map-id _) c.in_ok-union.ensures.order

pub returns : goal.returns
returns c =
    subst (λ u. IfOk c.from_rising.result (λ made. made ≡ u)) (union_made nat_list_cmp_total exact c.args.self.now c.args.other.now _ _ _ c.as_slice.ensures c.as_slice-2.ensures c.in_ok-union.ensures.members) c.from_rising.ensures
