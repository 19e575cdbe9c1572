use Rattle.std.proofs.Common.{◌≡◌, ℕ, ◌<◌, get_or, length, take}
use Rattle.fd_closure.specs.Lacks.{uses}
use Rattle.fd_closure.proofs.closing.counted.Given as goal

abbrev pub invariant-loop-place : goal.invariant-loop-place
invariant-loop-place l = record {
  len : length l.lacks.items ≡ l.count;
  counts : (d : ℕ) → d < l.count → get_or l.lacks.items d 0 ≡ uses (take l.place-index l.entries) d;
}
