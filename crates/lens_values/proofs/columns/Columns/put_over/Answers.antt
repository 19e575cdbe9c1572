use Rattle.std.proofs.Common.{◌≡◌, subst, IfOk}
use Rattle.plain_values.proofs.Common.{entries_rise}
use Rattle.plain_values.proofs.Maps.{both_made}
use Rattle.lens_values.proofs.columns.Columns.put_over.Goals as goal

pub union-requires-clause-left : goal.union-requires-clause-left
union-requires-clause-left c = entries_rise c.args.self.now _ c.pairs.ensures

pub union-requires-clause-right : goal.union-requires-clause-right
union-requires-clause-right c = entries_rise c.args.other.now _ c.pairs-2.ensures

pub of_rising-requires : goal.of_rising-requires
of_rising-requires c = c.in_ok-union.ensures.order

pub returns : goal.returns
returns c =
    subst (λ u. IfOk c.of_rising.result (λ made. made ≡ u)) (both_made c.args.self.now c.args.other.now _ _ _ c.pairs.ensures c.pairs-2.ensures c.in_ok-union.ensures.members) c.of_rising.ensures
