use Rattle.std.proofs.Common.{sym, ◌∙◌}
use Rattle.key_index.proofs.Members.{one_gone, one_stays}
use Rattle.key_index.proofs.group.one_without.Goals as goal

pub returns-then-eq : goal.returns-then-eq
returns-then-eq c = one_gone c.args.one c.args.row.now (sym c.eq.ensures ∙ c.if-eq.true)

pub returns-else-eq : goal.returns-else-eq
returns-else-eq c = one_stays c.args.one c.args.row.now (sym c.eq.ensures ∙ c.if-eq.false)
