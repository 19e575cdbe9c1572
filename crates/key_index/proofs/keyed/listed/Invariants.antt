use Rattle.std.proofs.Common.{◌≡◌, take, map}
use Rattle.key_index.proofs.keyed.listed.Given as goal

abbrev pub invariant-loop-keyed : goal.invariant-loop-keyed
invariant-loop-keyed l = l.rows.items ≡ map (λ k. k.row) (take l.keyed-index l.list)
