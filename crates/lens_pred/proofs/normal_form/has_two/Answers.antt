use Rattle.lens_pred.proofs.Conjuncts.{has_two-list_view, has_not_two-list_view}
use Rattle.lens_pred.proofs.normal_form.has_two.Goals as goal

pub returns-in_default : goal.returns-in_default
returns-in_default c = has_not_two-list_view c.args.members.now c.in_default.len_below

pub returns-in-len2-up : goal.returns-in-len2-up
returns-in-len2-up c = has_two-list_view c.args.members.now c.in-len2-up.len_at_least
