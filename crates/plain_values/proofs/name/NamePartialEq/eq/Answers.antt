use Rattle.std.proofs.Common.{sym, ◌∙◌}
use Rattle.plain_values.proofs.Fronts.{begin_alike}
use Rattle.plain_values.proofs.name.NamePartialEq.eq.Goals as goal

pub equals_rest-requires : goal.equals_rest-requires
equals_rest-requires c = begin_alike c.args.self.now c.args.other.now c.front.ensures.name c.front-2.ensures.name (sym c.front.ensures.value ∙ c.if-front.true ∙ c.front-2.ensures.value)
