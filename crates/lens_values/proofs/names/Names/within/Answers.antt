use Rattle.std.proofs.Common.{sym, ◌∙◌}
use Rattle.plain_values.proofs.Common.{list_all, nat_list_cmp_total, is_among, bytes_cmp, items, contains-items, exact, items_rise}
use Rattle.plain_values.specs.SortedSet.{is_subset}
use Rattle.lens_values.proofs.names.Names.within.Goals as goal

pub are_among-requires-clause-names : goal.are_among-requires-clause-names
are_among-requires-clause-names c = items_rise nat_list_cmp_total exact c.args.self.now _ c.as_slice.ensures

pub are_among-requires-clause-others : goal.are_among-requires-clause-others
are_among-requires-clause-others c = items_rise nat_list_cmp_total exact c.args.other.now _ c.as_slice-2.ensures

pub returns : goal.returns
unfolding is_subset
returns c =
    c.are_among.ensures ∙ (λ i. list_all (is_among bytes_cmp (c.as_slice-2.ensures i)) (c.as_slice.ensures i))
    ∙ (λ i. list_all (λ name. sym (contains-items c.args.other.now name) i) (items c.args.self.now))
