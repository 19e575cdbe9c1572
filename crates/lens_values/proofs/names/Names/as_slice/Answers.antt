use Rattle.std.proofs.Common.{sym, ap, ◌∙◌}
use Rattle.plain_values.proofs.Common.{nat_list_cmp_total, items, items-from_list}
use Rattle.lens_values.proofs.names.Names.as_slice.Goals as goal

pub returns : goal.returns
returns c = c.as_slice.ensures.value ∙ ap (λ v. v.items) c.deref.ensures ∙ sym (items-from_list nat_list_cmp_total _ c.self.invariant) ∙ ap items c.self.view_is
