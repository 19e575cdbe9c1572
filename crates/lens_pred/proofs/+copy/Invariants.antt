use Rattle.std.proofs.Common.{◌≡◌, ◌++◌, drop}
use Rattle.lens_pred.specs.View.{predicate_view}
use Rattle.lens_pred.proofs.+copy.Given as goal

-- the list and what is left make up the whole
abbrev pub invariant-copying::append_copies-loop-member : goal.invariant-copying::append_copies-loop-member
invariant-copying::append_copies-loop-member l =
    predicate_view l.list.items ++ predicate_view (drop l.member-index l.members) ≡ predicate_view l.initial.list.items ++ predicate_view l.members
