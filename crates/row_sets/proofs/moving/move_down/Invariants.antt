use Rattle.std.proofs.Common.{◌≡◌, length, IsPermutation}
use Rattle.row_sets.proofs.moving.move_down.Given as goal

abbrev pub invariant-loop-below : goal.invariant-loop-below
invariant-loop-below l = IsPermutation l.fn.rows l.rows × (length l.rows ≡ length l.fn.rows)
