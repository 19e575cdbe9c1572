use Rattle.std.proofs.Common.{sym, subst}
use Rattle.std.specs.List.Sorted.{IsStrictlySortedBy}
use Rattle.table_keeper.specs.Places.{Rise}
use Rattle.serving_tests.proofs.keepers.only.Goals as goal

pub returns : goal.returns
unfolding IsStrictlySortedBy
returns c = subst Rise (sym c.in_ok-vec.ensures.items) (tt, tt)
