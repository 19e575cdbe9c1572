use Rattle.std.proofs.Common.{◌≡◌, drop, find}
use Rattle.std.specs.FinMap as map
use Rattle.plain_values.proofs.Common.{is_other_kind}
use Rattle.lens_values.proofs.columns.first_clash.Given as goal

-- the answer is the one for what is left
abbrev pub invariant-loop-pair : goal.invariant-loop-pair
invariant-loop-pair l = find (λ e. is_other_kind (map.get l.columns e.0) e.1) l.pairs ≡ find (λ e. is_other_kind (map.get l.columns e.0) e.1) (drop l.pair-index l.pairs)
