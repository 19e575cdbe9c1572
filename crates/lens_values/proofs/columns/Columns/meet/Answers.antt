use Rattle.std.proofs.Common.{◌≡◌, subst, IfOk}
use Rattle.plain_values.proofs.Common.{nat_list_cmp_total, is_among, bytes_cmp, exact, entries_rise, part_rises, items_rise}
use Rattle.plain_values.proofs.Maps.{part_made}
use Rattle.lens_values.proofs.columns.Columns.meet.Goals as goal

pub intersection-requires-clause-list : goal.intersection-requires-clause-list
intersection-requires-clause-list c = entries_rise c.args.self.now _ c.pairs.ensures

pub intersection-requires-clause-keys : goal.intersection-requires-clause-keys
intersection-requires-clause-keys c = items_rise nat_list_cmp_total exact c.args.cols.now _ c.as_slice.ensures

pub of_rising-requires : goal.of_rising-requires
of_rising-requires c = part_rises c.args.self.now (is_among bytes_cmp c.as_slice.result.now) _ _ c.pairs.ensures c.in_ok-intersection.ensures

pub returns : goal.returns
returns c =
    subst (λ u. IfOk c.of_rising.result (λ made. made ≡ u)) (part_made c.args.cols.now c.args.self.now _ _ _ c.as_slice.ensures c.pairs.ensures c.in_ok-intersection.ensures) c.of_rising.ensures
