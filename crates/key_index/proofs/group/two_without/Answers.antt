use Rattle.std.proofs.Common.{sym, ◌∙◌}
use Rattle.key_index.proofs.Members.{first_gone, second_gone, both_stay}
use Rattle.key_index.proofs.group.two_without.Goals as goal

pub returns-then-eq : goal.returns-then-eq
returns-then-eq c = c.one_without.ensures ∙ first_gone c.args.one c.args.other c.args.row.now (sym c.eq.ensures ∙ c.if-eq.true)

pub returns-then-eq-2 : goal.returns-then-eq-2
returns-then-eq-2 c = second_gone c.args.one c.args.other c.args.row.now (sym c.eq.ensures ∙ c.if-eq.false) (sym c.eq-else-eq.ensures ∙ c.if-eq-2.true)

pub returns-else-eq-2 : goal.returns-else-eq-2
returns-else-eq-2 c = both_stay c.args.one c.args.other c.args.row.now (sym c.eq.ensures ∙ c.if-eq.false) (sym c.eq-else-eq.ensures ∙ c.if-eq-2.false)
