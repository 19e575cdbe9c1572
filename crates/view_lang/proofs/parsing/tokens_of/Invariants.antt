use Rattle.std.proofs.Common.{◌-◌, length}
use Rattle.view_lang.specs.Outcomes.{placed_view}
use Rattle.view_lang.proofs.Cuts.{IsCut}
use Rattle.view_lang.proofs.parsing.tokens_of.Given as goal

abbrev pub invariant-loop-at : goal.invariant-loop-at
invariant-loop-at l = IsCut l.text l.at (placed_view l.tokens.items)

abbrev pub decreases-loop-at : goal.decreases-loop-at
decreases-loop-at l = length l.text - l.at
