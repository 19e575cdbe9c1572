use Rattle.std.proofs.Common.{ap, ◌∙◌, position}
use Rattle.plain_values.proofs.Common.{eq_by_cmp, nat_list_cmp_total, bytes_cmp, exact, items_rise}
use Rattle.lens_values.proofs.Places.{tied_place, between}
use Rattle.lens_values.proofs.names.Names.place_near.Goals as goal

pub returns-in-Ok : goal.returns-in-Ok
returns-in-Ok c =
    tied_place nat_list_cmp_total c.as_slice-own.result.now c.args.name.now c.in-Ok.place (items_rise nat_list_cmp_total exact c.args.self.now _ c.as_slice-own.ensures) c.in-Ok.ensures.found.0 c.in-Ok.ensures.found.1
    ∙ ap (position (eq_by_cmp bytes_cmp c.args.name.now)) c.as_slice-own.ensures

pub returns-in-Err : goal.returns-in-Err
returns-in-Err c =
    between nat_list_cmp_total c.as_slice-own.result.now c.args.name.now c.in-Err.place (items_rise nat_list_cmp_total exact c.args.self.now _ c.as_slice-own.ensures) (c.is_above_before.ensures c.if-is_above_before.true) c.in-Err.ensures.above
    ∙ ap (position (eq_by_cmp bytes_cmp c.args.name.now)) c.as_slice-own.ensures
