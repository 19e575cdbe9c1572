use Rattle.std.proofs.Common.{◌≡◌, drop, find}
use Rattle.lens_specs.specs.Common.{names_of_all}
use Rattle.lens_pred.specs.Sought.{passes}
use Rattle.lens_pred.specs.View.{list_view, predicate_view}
use Rattle.lens_pred.proofs.+first_name.Given as goal

-- the answer is the one for what is left
abbrev pub invariant-naming::first_name_in-loop-member : goal.invariant-naming::first_name_in-loop-member
invariant-naming::first_name_in-loop-member l =
    find (passes l.sought) (names_of_all (list_view (predicate_view (drop l.member-index l.members))))
    ≡ find (passes l.sought) (names_of_all (list_view (predicate_view l.members)))
