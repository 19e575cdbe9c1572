use Rattle.std.proofs.Common.{◌≡◌, length, IsPermutation}
use Rattle.row_sets.proofs.moving.order_nearly.Given as goal

abbrev pub invariant-loop-place : goal.invariant-loop-place
invariant-loop-place l = IsPermutation l.fn.rows l.rows × (length l.rows ≡ length l.fn.rows)
