use Rattle.std.proofs.Common.{◌≡◌, ◌++◌, drop}
use Rattle.lens_specs.specs.Common.{renamed_predicate}
use Rattle.lens_pred.specs.View.{predicate_view}
use Rattle.lens_pred.proofs.+rename.Given as goal

-- the list and what is left make up the whole
abbrev pub invariant-renaming::append_renamed-loop-member : goal.invariant-renaming::append_renamed-loop-member
invariant-renaming::append_renamed-loop-member l =
    predicate_view l.list.items ++ renamed_predicate l.from l.to (predicate_view (drop l.member-index l.members))
    ≡ predicate_view l.initial.list.items ++ renamed_predicate l.from l.to (predicate_view l.members)
