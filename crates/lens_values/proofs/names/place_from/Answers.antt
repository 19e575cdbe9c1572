use Rattle.std.proofs.Common.{ap, sym, ◌∙◌, arith}
use Rattle.plain_values.proofs.Common.{get_or_default, bytes_cmp}
use Rattle.lens_values.proofs.names.place_from.Goals as goal

pub returns-in-Equal-clause-found : goal.returns-in-Equal-clause-found
returns-in-Equal-clause-found c = (
  omega (arith, c.loop-place-test.true),
  λ d. ap (λ own. bytes_cmp own c.args.name.now) (get_or_default c.args.list.now c.loop-place.place _ _ (omega (arith, c.loop-place-test.true)) ∙ sym c.index-list-place.is) ∙ sym c.cmp.ensures ∙ c.in-Equal.is,
)
