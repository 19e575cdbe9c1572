use Rattle.std.proofs.Common.{◌∙◌, ap, sym, subst, map-id, position}
use Rattle.plain_values.proofs.Common.{IsStrictlySortedBy, eq_by_cmp, nat_list_cmp_total, bytes_cmp}
use Rattle.lens_values.proofs.Places.{searched_place}
use Rattle.lens_values.proofs.names.place_in.Goals as goal

pub returns : goal.returns
returns c = c.ok.ensures.value ∙ searched_place nat_list_cmp_total (λ name. name) c.args.list.now c.args.name.now c.binary_search.result (subst (IsStrictlySortedBy bytes_cmp) (sym (map-id c.args.list.now)) c.requires) c.binary_search.ensures.bound c.binary_search.ensures.position
    ∙ ap (position (eq_by_cmp bytes_cmp c.args.name.now)) (map-id c.args.list.now)
