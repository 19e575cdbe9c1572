use Rattle.std.proofs.Common.{◌≡◌, ◌++◌, drop}
use Rattle.lens_specs.specs.Common.{with_name, without_name}
use Rattle.lens_pred.specs.View.{predicate_view}
use Rattle.lens_pred.proofs.splitting.parted.Given as goal

-- each part so far and that of what is left make up the whole part
abbrev pub invariant-loop-conjunct : goal.invariant-loop-conjunct
invariant-loop-conjunct l = record {
  with : predicate_view l.with.items ++ with_name l.col (predicate_view (drop l.conjunct-index l.conjuncts)) ≡ with_name l.col (predicate_view l.conjuncts);
  without : predicate_view l.without.items ++ without_name l.col (predicate_view (drop l.conjunct-index l.conjuncts)) ≡ without_name l.col (predicate_view l.conjuncts);
}
