use Rattle.std.proofs.Common.{ap, ◌∙◌, is_some}
use Rattle.plain_values.proofs.Common.{eq_by_cmp, bytes_cmp}
use Rattle.lens_specs.specs.Common.{names_in}
use Rattle.lens_pred.specs.View.{formula_view}
use Rattle.lens_pred.proofs.Conjuncts.{is_some-find}
use Rattle.lens_pred.proofs.formula.Formula.mentions.Goals as goal

pub returns : goal.returns
returns c =
    c.is_some.ensures ∙ ap is_some c.first_name.ensures
    ∙ is_some-find (eq_by_cmp bytes_cmp c.args.name.now) (names_in (formula_view c.args.self.now))
