use Rattle.std.proofs.Common.{◌≡◌, subst, IfOk}
use Rattle.plain_values.proofs.Common.{nat_list_cmp_total, exact, items_rise, own_keys_rise, filter_rises}
use Rattle.plain_values.proofs.Sets.{intersection_made}
use Rattle.lens_values.proofs.names.Names.meet.Goals as goal

pub intersection-requires-clause-list : goal.intersection-requires-clause-list
intersection-requires-clause-list c = own_keys_rise nat_list_cmp_total exact c.args.self.now _ c.as_slice.ensures

pub intersection-requires-clause-keys : goal.intersection-requires-clause-keys
intersection-requires-clause-keys c = items_rise nat_list_cmp_total exact c.args.other.now _ c.as_slice-2.ensures

pub from_rising-requires : goal.from_rising-requires
from_rising-requires c = filter_rises nat_list_cmp_total exact c.args.self.now _ _ _ c.as_slice.ensures c.in_ok-intersection.ensures

pub returns : goal.returns
returns c =
    subst (λ u. IfOk c.from_rising.result (λ made. made ≡ u)) (intersection_made nat_list_cmp_total exact c.args.self.now c.args.other.now _ _ _ c.as_slice.ensures c.as_slice-2.ensures c.in_ok-intersection.ensures) c.from_rising.ensures
