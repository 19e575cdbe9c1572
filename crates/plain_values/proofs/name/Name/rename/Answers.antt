use Rattle.std.proofs.Common.{ap, sym, ◌∙◌, if◌then◌else◌}
use Rattle.std.specs.Cmp.Lexicographic.{texts_ties}
use Rattle.plain_values.proofs.name.Name.rename.Goals as goal

pub returns-then-eq : goal.returns-then-eq
returns-then-eq c = ap (λ b. if b then c.args.to.now else c.args.self.now) (sym (sym (texts_ties c.args.self.now c.args.from.now) ∙ sym c.eq.ensures ∙ c.if-eq.true))

pub returns-else-eq : goal.returns-else-eq
returns-else-eq c = ap (λ b. if b then c.args.to.now else c.args.self.now) (sym (sym (texts_ties c.args.self.now c.args.from.now) ∙ sym c.eq.ensures ∙ c.if-eq.false))
