use Rattle.std.proofs.Common.{◌≡◌, ◌++◌, drop}
use Rattle.lens_specs.specs.Common.{names_of_all}
use Rattle.lens_pred.specs.View.{list_view, predicate_view}
use Rattle.lens_pred.proofs.+append_names.Given as goal

-- the list and the names of what is left make up the whole
abbrev pub invariant-naming::append_names_of-loop-member : goal.invariant-naming::append_names_of-loop-member
invariant-naming::append_names_of-loop-member l =
    l.list.items ++ names_of_all (list_view (predicate_view (drop l.member-index l.members)))
    ≡ l.initial.list.items ++ names_of_all (list_view (predicate_view l.members))
