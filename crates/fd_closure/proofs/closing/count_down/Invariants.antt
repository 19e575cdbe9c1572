use Rattle.std.proofs.Common.{◌≡◌, ℕ, ◌+◌, ◌<◌, get_or, length, take}
use Rattle.lens_specs.specs.Common.{Names}
use Rattle.fd_closure.specs.Arrival.{AllIn, IsKept}
use Rattle.fd_closure.specs.Lacks.{ReadyAmong, ReadyWithin, uses}
use Rattle.fd_closure.proofs.closing.count_down.Given as goal

abbrev pub invariant-loop-place : goal.invariant-loop-place
invariant-loop-place l = record {
  kept : IsKept l.found;
  front : take (length l.fn.found.order.items) l.found.order.items ≡ l.fn.found.order.items;
  len : length l.lacks ≡ length l.deps;
  counts : (d : ℕ) → d < length l.deps → get_or l.lacks d 0 + uses (take l.place-index l.entries) d ≡ get_or l.fn.lacks d 0;
  within : (D : Names) → AllIn l.fn.found.order.items D → ReadyWithin l.deps l.lacks D → AllIn l.found.order.items D;
  among : ReadyAmong l.deps l.fn.lacks l.fn.found.order.items → ReadyAmong l.deps l.lacks l.found.order.items;
}
