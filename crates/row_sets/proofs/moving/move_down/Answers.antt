use Rattle.std.proofs.Common.{◌∙◌}
use Rattle.plain_values.proofs.Common.{IsPermutation-trans}
use Rattle.row_sets.proofs.moving.move_down.Goals as goal

pub loop-below-preserved : goal.loop-below-preserved
loop-below-preserved c = (IsPermutation-trans _ _ _ c.loop-below.invariant.0 c.swap.ensures.permutation, c.swap.ensures.len ∙ c.loop-below.invariant.1)
