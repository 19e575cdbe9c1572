use Rattle.std.proofs.Common.{ap, ◌∙◌, is_some}
use Rattle.plain_values.specs.SortedSet as set
use Rattle.lens_specs.specs.Common.{names_in}
use Rattle.lens_pred.specs.View.{formula_view}
use Rattle.lens_pred.proofs.Conjuncts.{is_some-find}
use Rattle.lens_pred.proofs.formula.Formula.mentions_one_of.Goals as goal

pub returns : goal.returns
returns c =
    c.is_some.ensures ∙ ap is_some c.first_name.ensures
    ∙ is_some-find (set.contains c.args.cols.now) (names_in (formula_view c.args.self.now))
