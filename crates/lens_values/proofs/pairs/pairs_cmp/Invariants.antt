use Rattle.std.proofs.Common.{◌≡◌, drop}
use Rattle.plain_values.proofs.Common.{slice_cmp, zip, pair_cmp}
use Rattle.lens_values.proofs.pairs.pairs_cmp.Given as goal

-- the answer is the one for what is left
abbrev pub invariant-loop-place : goal.invariant-loop-place
invariant-loop-place l =
    slice_cmp pair_cmp (zip l.names l.values) (zip l.others l.their)
    ≡ slice_cmp pair_cmp (drop l.place (zip l.names l.values)) (drop l.place (zip l.others l.their))
