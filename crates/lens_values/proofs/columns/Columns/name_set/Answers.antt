use Rattle.std.proofs.Common.{sym, ap, ◌∙◌}
use Rattle.plain_values.proofs.Common.{nat_list_cmp_total, keys, names, bytes_cmp, keys_of, entries-from_entries, from_list}
use Rattle.lens_values.proofs.columns.Columns.name_set.Goals as goal

pub returns : goal.returns
unfolding names
returns c =
    ap (λ l. l.names) c.deref.ensures ∙ c.self.invariant.1
    ∙ ap (λ es. from_list (keys_of es)) (sym (entries-from_entries bytes_cmp nat_list_cmp_total _ c.self.invariant.0)) ∙ ap (λ m. from_list (keys m)) c.self.view_is
