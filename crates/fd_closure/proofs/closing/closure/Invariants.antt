use Rattle.std.proofs.Common.{◌≡◌, ℕ, ◌<◌, ◌≤◌, get_or, length, take}
use Rattle.plain_values.proofs.Common.{count_by}
use Rattle.lens_specs.specs.Dependencies as spec
use Rattle.fd_closure.specs.Arrival.{AllIn, HaveAll, IsKept}
use Rattle.fd_closure.specs.Lacks.{ReadyAmong}
use Rattle.fd_closure.proofs.Counting.{lacking, unseen}
use Rattle.fd_closure.proofs.closing.closure.Given as goal

abbrev pub invariant-loop-place : goal.invariant-loop-place
invariant-loop-place l = record {
  kept : IsKept l.found;
  place : l.place ≤ length l.found.order.items;
  given : HaveAll l.found.order.items l.cols;
  within : AllIn l.found.order.items (spec.closure l.cols l.deps);
  len : length l.lacks.items ≡ length l.deps;
  counts : (d : ℕ) → d < length l.deps → get_or l.lacks.items d 0 ≡ count_by (lacking (take l.place l.found.order.items) d) l.index.items;
  ready : ReadyAmong l.deps l.lacks.items l.found.order.items;
}

abbrev pub decreases-loop-place : goal.decreases-loop-place
decreases-loop-place l = unseen (spec.closure l.cols l.deps) (take l.place l.found.order.items)
