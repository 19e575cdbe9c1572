use Rattle.std.proofs.Common.{◌∙◌, ap, find, not}
use Rattle.lens_specs.specs.Common.{holds, violating_row}
use Rattle.edit_check.proofs.checking.least_refused.Goals as goal

pub returns : goal.returns
unfolding violating_row
returns c = c.first_refused.ensures ∙ ap (find (λ row. not (holds c.args.pred.now row))) c.rows.ensures
