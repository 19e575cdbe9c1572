use Rattle.std.proofs.Common.{sym, ap, ◌∙◌}
use Rattle.plain_values.proofs.Common.{nat_list_cmp_total, is_among, bytes_cmp, contains-items, exact, items_rise}
use Rattle.lens_values.proofs.Places.{searched}
use Rattle.lens_values.proofs.names.Names.has.Goals as goal

pub returns : goal.returns
returns c =
    c.is_ok.ensures.value
    ∙ searched nat_list_cmp_total c.as_slice-own.result.now c.args.name.now c.binary_search.result (items_rise nat_list_cmp_total exact c.args.self.now _ c.as_slice-own.ensures) c.binary_search.ensures.bound c.binary_search.ensures.position
    ∙ ap (λ l. is_among bytes_cmp l c.args.name.now) c.as_slice-own.ensures ∙ sym (contains-items c.args.self.now c.args.name.now)

pub returns-then-own-le-MOST_IN_TURN : goal.returns-then-own-le-MOST_IN_TURN
returns-then-own-le-MOST_IN_TURN c =
    c.is_one_of.ensures ∙ ap (λ l. is_among bytes_cmp l c.args.name.now) c.as_slice-own.ensures ∙ sym (contains-items c.args.self.now c.args.name.now)
