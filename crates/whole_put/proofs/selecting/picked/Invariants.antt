use Rattle.std.proofs.Common.{◌≡◌, take, filter}
use Rattle.whole_put.specs.Shows.{is_shown}
use Rattle.whole_put.proofs.selecting.picked.Given as goal

abbrev pub invariant-loop-row : goal.invariant-loop-row
invariant-loop-row l = l.some.items ≡ filter (is_shown l.pred l.shown) (take l.row-index l.rows)
