use Rattle.lens_laws.proofs.Common.{given_is}
use Rattle.lens_probe.proofs.view.View.new.Goals as goal

pub invariant_of-result : goal.invariant_of-result
invariant_of-result c = ((c.sort.ensures.typed, c.requires.asks), given_is c.args.lens.now c.sort.result.now c.sort.ensures.typed c.sort.ensures.given, c.requires.near)
