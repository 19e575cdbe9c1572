use Rattle.std.proofs.Common.{ap, sym, ◌∙◌, is_some}
use Rattle.plain_values.specs.SortedSet as set
use Rattle.lens_specs.specs.Common.{names_in}
use Rattle.lens_pred.specs.View.{formula_view}
use Rattle.lens_pred.proofs.Conjuncts.{none_fails}
use Rattle.lens_pred.proofs.formula.Formula.mentions_only.Goals as goal

pub returns : goal.returns
returns c = none_fails (set.contains c.args.cols.now) (names_in (formula_view c.args.self.now)) c.is_none.result (ap is_some (sym c.first_name.ensures) ∙ c.is_none.ensures)
