use Rattle.std.proofs.Common.{◌≡◌, drop}
use Rattle.lens_pred.specs.NormalForm.{are_normal}
use Rattle.lens_pred.specs.View.{list_view, predicate_view}
use Rattle.lens_pred.proofs.+normal.Given as goal

-- the answer is the one for what is left
abbrev pub invariant-normal_form::are_normal-loop-member : goal.invariant-normal_form::are_normal-loop-member
invariant-normal_form::are_normal-loop-member l =
    are_normal (list_view (predicate_view (drop l.member-index l.members))) ≡ are_normal (list_view (predicate_view l.members))
