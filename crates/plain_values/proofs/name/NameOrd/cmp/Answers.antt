use Rattle.plain_values.proofs.Fronts.{tie, order}
use Rattle.plain_values.proofs.name.NameOrd.cmp.Goals as goal

pub cmp_rest-requires : goal.cmp_rest-requires
cmp_rest-requires c = tie c.args.self.now c.args.other.now c.front.ensures.name c.front-2.ensures.name _ _ _ c.front.ensures.value c.front-2.ensures.value c.cmp.ensures c.in-Equal.is

pub returns-in_default : goal.returns-in_default
returns-in_default c = order c.args.self.now c.args.other.now c.front.ensures.name c.front-2.ensures.name _ _ _ c.front.ensures.value c.front-2.ensures.value c.cmp.ensures c.in_default.not-Equal
