use Rattle.std.proofs.Common.{◌<◌, ◌-◌, ap, sym, ◌∙◌, arith, length}
use Rattle.plain_values.proofs.Common.{ltb-true, get_or_default, bytes_cmp, is_less}
use Rattle.lens_values.proofs.names.is_above_before.Goals as goal

pub returns-in-Some : goal.returns-in-Some
returns-in-Some c = λ h l.
    let found = c.in-Some.ensures.lookup in
    let within : c.args.place - 1 < length c.args.list.now = ltb-true (c.args.place - 1) (length c.args.list.now) (sym found.0) in (
      omega (arith, within),
      λ d. ap (λ own. bytes_cmp own c.args.name.now) (get_or_default c.args.list.now (c.args.place - 1) d _ within ∙ sym found.1) ∙ sym c.cmp.ensures ∙ is_less _ (sym c.is_lt.ensures ∙ h),
    )
