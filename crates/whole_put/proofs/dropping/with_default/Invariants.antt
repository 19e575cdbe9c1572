use Rattle.std.proofs.Common.{◌≡◌, take, map}
use Rattle.plain_values.proofs.Common.{override}
use Rattle.whole_put.proofs.dropping.with_default.Given as goal

abbrev pub invariant-loop-row : goal.invariant-loop-row
invariant-loop-row l = l.filled.items ≡ map (override l.default) (take l.row-index l.rows)
