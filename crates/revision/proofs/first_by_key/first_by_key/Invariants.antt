use Rattle.plain_values.proofs.Common.{restrict, row_cmp}
use Rattle.fd_tree.proofs.Places.{Holds}
use Rattle.revision.proofs.first_by_key.first_by_key.Given as goal

abbrev pub invariant-loop-place : goal.invariant-loop-place
invariant-loop-place l = Holds row_cmp (restrict l.cols) l.places l.rows l.place
