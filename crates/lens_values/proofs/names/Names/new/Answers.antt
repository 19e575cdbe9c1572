use Rattle.std.proofs.Common.{sym, ap, ◌∙◌}
use Rattle.plain_values.proofs.Common.{nat_list_cmp_total, from_list, same_set, contains-from_list, exact}
use Rattle.lens_values.proofs.names.Names.new.Goals as goal

pub returns : goal.returns
returns c = ap (λ v. from_list v.items) c.in_ok-new.ensures.ok ∙ same_set nat_list_cmp_total exact _ _ (λ name.
    contains-from_list nat_list_cmp_total _ name ∙ c.into_sorted.ensures.members name ∙ sym (contains-from_list nat_list_cmp_total _ name))
