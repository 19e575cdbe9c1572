use Rattle.std.proofs.Common.{◌≡◌, false, take}
use Rattle.join_delta.specs.Shown.{one_stays}
use Rattle.join_delta.proofs.parts.one_stays.Given as goal

abbrev pub invariant-loop-row : goal.invariant-loop-row
invariant-loop-row l = one_stays l.removed l.part (take l.row-index l.rows) ≡ false
