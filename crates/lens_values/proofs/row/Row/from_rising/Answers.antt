use Rattle.std.proofs.Common.{◌≡◌, sym, ap, subst, ◌∙◌, length, IfOk}
use Rattle.plain_values.proofs.Common.{from_entries, zip, IsStrictlySortedBy, nat_list_cmp_total, bytes_cmp, items, items-from_list}
use Rattle.lens_values.proofs.Cells.{lengths, zipped}
use Rattle.lens_values.proofs.row.Row.from_rising.Goals as goal

pub from_rising-requires : goal.from_rising-requires
from_rising-requires c = subst (IsStrictlySortedBy bytes_cmp) (sym c.in_ok-names.ensures.names) c.requires

pub from_values-requires : goal.from_values-requires
from_values-requires c =
    ap (λ s. length (items s)) c.in_ok-from_rising.ensures
    ∙ ap length (items-from_list nat_list_cmp_total _ (subst (IsStrictlySortedBy bytes_cmp) (sym c.in_ok-names.ensures.names) c.requires) ∙ c.in_ok-names.ensures.names)
    ∙ lengths c.args.pairs.items ∙ sym (ap length c.in_ok-names.ensures.values)

pub returns : goal.returns
returns c =
    let names = ap items c.in_ok-from_rising.ensures
    ∙ items-from_list nat_list_cmp_total _ (subst (IsStrictlySortedBy bytes_cmp) (sym c.in_ok-names.ensures.names) c.requires) ∙ c.in_ok-names.ensures.names in
    subst (λ es. IfOk c.from_values.result (λ row. row ≡ from_entries es)) ((λ i. zip (names i) (c.in_ok-names.ensures.values i)) ∙ zipped c.args.pairs.items) c.from_values.ensures
