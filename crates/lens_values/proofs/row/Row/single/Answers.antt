use Rattle.std.proofs.Common.{◌≡◌, ◌∷◌, [], ◌∙◌, ap, length, rules, subst, sym, IfOk}
use Rattle.plain_values.proofs.Common.{nat_list_cmp_total, from_entries, zip, IsStrictlySortedBy, items, items-from_list}
use Rattle.lens_values.proofs.row.Row.single.Goals as goal

pub from_values-requires : goal.from_values-requires
unfolding IsStrictlySortedBy
from_values-requires c =
    let values : c.push.new.self.items ≡ c.in_ok-copy.field-0 ∷ [] = search rules in
    ap (λ names. length (items names)) c.in_ok-single.ensures
    ∙ ap length (items-from_list nat_list_cmp_total (c.args.name.now ∷ []) (tt, tt)) ∙ sym (ap length values)

pub returns : goal.returns
unfolding IsStrictlySortedBy
returns c =
    let values : c.push.new.self.items ≡ c.in_ok-copy.field-0 ∷ [] = search rules in
    let names = ap items c.in_ok-single.ensures ∙ items-from_list nat_list_cmp_total (c.args.name.now ∷ []) (tt, tt) in
    let value : c.in_ok-copy.field-0 ≡ c.args.value.now = c.in_ok-copy.ensures in
    subst (λ pairs. IfOk c.from_values.result (λ row. row ≡ from_entries pairs))
    ((λ i. zip (names i) (values i)) ∙ ap (λ v. (c.args.name.now, v) ∷ []) value) c.from_values.ensures
