use Rattle.std.proofs.Common.{sym, subst}
use Rattle.plain_values.proofs.Common.{IsStrictlySortedBy}
use Rattle.table_keeper.specs.Places.{Rise}
use Rattle.table_keeper.proofs.keeper.Kept.nothing.Goals as goal

pub returns-clause-rising : goal.returns-clause-rising
unfolding IsStrictlySortedBy
returns-clause-rising c = subst Rise (sym c.new-2.ensures.items) tt
