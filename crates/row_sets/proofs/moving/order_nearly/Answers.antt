use Rattle.std.proofs.Common.{◌∙◌}
use Rattle.plain_values.proofs.Common.{IsPermutation-trans}
use Rattle.row_sets.proofs.moving.order_nearly.Goals as goal

pub returns-then-not-move_down-clause-rows : goal.returns-then-not-move_down-clause-rows
returns-then-not-move_down-clause-rows c = IsPermutation-trans _ _ _ c.loop-place.invariant.0 c.move_down.ensures.rows

pub loop-place-preserved : goal.loop-place-preserved
loop-place-preserved c = (IsPermutation-trans _ _ _ c.loop-place.invariant.0 c.move_down.ensures.rows, c.move_down.ensures.len ∙ c.loop-place.invariant.1)
