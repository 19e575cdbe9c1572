use Rattle.std.proofs.Common.{◌≡◌, subst, IfOk, not}
use Rattle.plain_values.proofs.Common.{nat_list_cmp_total, is_among, bytes_cmp, exact, entries_rise, part_rises, items_rise}
use Rattle.plain_values.proofs.Maps.{outside_made}
use Rattle.lens_values.proofs.columns.Columns.minus.Goals as goal

pub difference-requires-clause-list : goal.difference-requires-clause-list
difference-requires-clause-list c = entries_rise c.args.self.now _ c.pairs.ensures

pub difference-requires-clause-keys : goal.difference-requires-clause-keys
difference-requires-clause-keys c = items_rise nat_list_cmp_total exact c.args.cols.now _ c.as_slice.ensures

pub of_rising-requires : goal.of_rising-requires
of_rising-requires c = part_rises c.args.self.now (λ k. not (is_among bytes_cmp c.as_slice.result.now k)) _ _ c.pairs.ensures c.in_ok-difference.ensures

pub returns : goal.returns
returns c =
    subst (λ u. IfOk c.of_rising.result (λ made. made ≡ u)) (outside_made c.args.cols.now c.args.self.now _ _ _ c.as_slice.ensures c.pairs.ensures c.in_ok-difference.ensures) c.of_rising.ensures
