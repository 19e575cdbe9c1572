use Rattle.std.proofs.Common.{◌∙◌}
use Rattle.plain_values.proofs.Common.{eq-value_cmp}
use Rattle.lens_pred.proofs.holding.is_same.Goals as goal

pub returns : goal.returns
returns c = c.eq.ensures ∙ eq-value_cmp c.args.value.now c.args.one.now
