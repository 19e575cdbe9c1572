use Rattle.std.proofs.Common.{◌≡◌, true}
use Rattle.plain_values.proofs.Common.{AllWithin, is_le, row_cmp}
use Rattle.row_sets.proofs.index.not_above.Given as goal

-- the entries so far are not above the part
abbrev pub invariant-loop-place : goal.invariant-loop-place
invariant-loop-place l = AllWithin (λ e. is_le (row_cmp e.0 l.part) ≡ true) l.entries 0 l.place
