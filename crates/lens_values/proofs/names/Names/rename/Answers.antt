use Rattle.std.proofs.Common.{◌≡◌, sym, ◌∙◌, subst, IfOk}
use Rattle.lens_values.proofs.Renamed.{without_it}
use Rattle.lens_values.proofs.names.Names.rename.Goals as goal

pub returns-then-not-has : goal.returns-then-not-has
returns-then-not-has c =
    subst (λ C. IfOk c.copy.result (λ names. names ≡ C)) (sym (without_it c.args.from.now c.args.to.now c.args.self.now (sym c.has.ensures ∙ c.if-not-has.true))) c.copy.ensures
