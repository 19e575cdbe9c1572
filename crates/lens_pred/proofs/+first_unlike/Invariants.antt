use Rattle.std.proofs.Common.{◌≡◌, drop}
use Rattle.lens_specs.specs.Common.{unlike_all}
use Rattle.lens_pred.specs.View.{list_view, predicate_view}
use Rattle.lens_pred.proofs.+first_unlike.Given as goal

-- the answer is the one for what is left
abbrev pub invariant-checking::first_unlike-loop-member : goal.invariant-checking::first_unlike-loop-member
invariant-checking::first_unlike-loop-member l =
    unlike_all l.columns (list_view (predicate_view (drop l.member-index l.members))) ≡ unlike_all l.columns (list_view (predicate_view l.members))
