use Rattle.std.proofs.Common.{◌≡◌, ◌++◌, drop}
use Rattle.lens_specs.specs.Common.{names_of}
use Rattle.lens_pred.specs.View.{predicate_view}
use Rattle.lens_types.proofs.SteadyConjuncts.{others}
use Rattle.lens_types.proofs.steadiness.append_unsteady.Given as goal

-- the list and the names of what is left make up the whole
abbrev pub invariant-loop-conjunct : goal.invariant-loop-conjunct
invariant-loop-conjunct l =
    l.names.items ++ names_of (others l.tree (predicate_view (drop l.conjunct-index l.conjuncts)))
    ≡ l.initial.names.items ++ names_of (others l.tree (predicate_view l.conjuncts))
