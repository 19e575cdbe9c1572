use Rattle.std.proofs.Common.{◌≡◌, drop}
use Rattle.lens_specs.specs.Common.{all_hold, any_holds}
use Rattle.lens_pred.specs.View.{list_view, predicate_view}
use Rattle.lens_pred.proofs.+holds.Given as goal

-- the answer is the one for what is left
abbrev pub invariant-holding::all_hold-loop-member : goal.invariant-holding::all_hold-loop-member
invariant-holding::all_hold-loop-member l =
    all_hold (list_view (predicate_view (drop l.member-index l.members))) l.row ≡ all_hold (list_view (predicate_view l.members)) l.row

-- the answer is the one for what is left
abbrev pub invariant-holding::any_holds-loop-member : goal.invariant-holding::any_holds-loop-member
invariant-holding::any_holds-loop-member l =
    any_holds (list_view (predicate_view (drop l.member-index l.members))) l.row ≡ any_holds (list_view (predicate_view l.members)) l.row
