use Rattle.std.proofs.Common.{◌≡◌, subst, IfOk}
use Rattle.plain_values.proofs.Common.{nat_list_cmp_total, exact, items_rise, own_keys_rise, filter_rises, difference_made}
use Rattle.lens_values.proofs.names.Names.minus.Goals as goal

pub difference-requires-clause-list : goal.difference-requires-clause-list
difference-requires-clause-list c = own_keys_rise nat_list_cmp_total exact c.args.self.now _ c.as_slice.ensures

pub difference-requires-clause-keys : goal.difference-requires-clause-keys
difference-requires-clause-keys c = items_rise nat_list_cmp_total exact c.args.other.now _ c.as_slice-2.ensures

pub from_rising-requires : goal.from_rising-requires
from_rising-requires c = filter_rises nat_list_cmp_total exact c.args.self.now _ _ _ c.as_slice.ensures c.in_ok-difference.ensures

pub returns : goal.returns
returns c =
    subst (λ u. IfOk c.from_rising.result (λ made. made ≡ u)) (difference_made nat_list_cmp_total exact c.args.self.now c.args.other.now _ _ _ c.as_slice.ensures c.as_slice-2.ensures c.in_ok-difference.ensures) c.from_rising.ensures
