use Rattle.std.proofs.Common.{◌≡◌, ap, sym, ◌∙◌, subst}
use Rattle.plain_values.proofs.Common.{IsStrictlySortedBy, tied_itself, nat_list_cmp_total, same_text, bytes_cmp, keys_rise}
use Rattle.std.specs.FinMap as finmap
use Rattle.lens_values.proofs.Cells.{copied, value_at}
use Rattle.lens_values.proofs.Places.{tied_place}
use Rattle.key_index.proofs.Lists.{inside}
use Rattle.key_index.proofs.cells.cell.Goals as goal

pub returns-then-eq : goal.returns-then-eq
returns-then-eq c =
    let own = c.as_slice-own.result.now in
    let row = c.args.row.now in
    let name = c.args.name.now in
    let place = c.args.place in
    let here : c.index-own-place.result ≡ name = same_text _ _ (sym (sym c.eq.ensures ∙ c.if-eq.true)) in
    let keys : own ≡ finmap.keys row = c.as_slice-own.ensures ∙ c.names.ensures in
    let rise = subst (IsStrictlySortedBy bytes_cmp) (sym keys) (keys_rise bytes_cmp row) in
    let tie = tied_place nat_list_cmp_total own name place rise c.if-place-own.true (λ d.
    ap (λ n. bytes_cmp n name) (inside own place d c.index-own-place.result c.if-place-own.true ∙ sym c.index-own-place.is ∙ here) ∙ tied_itself nat_list_cmp_total name) in
    copied c.get.result c.values.result.now place c.get.ensures.lookup.0 c.get.ensures.lookup.1
    ∙ value_at name row own _ place keys c.values.ensures tie
