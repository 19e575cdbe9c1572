use Rattle.std.proofs.Common.{◌≡◌, ℕ, ◌<◌, get_or, take}
use Rattle.lens_specs.specs.Common.{Edge}
use Rattle.fd_closure.specs.Entries.{entries_from}
use Rattle.fd_closure.specs.Sides.{IsFull}
use Rattle.fd_closure.proofs.index.entries.Given as goal

abbrev pub invariant-loop-place : goal.invariant-loop-place
invariant-loop-place l = record {
  list : l.list.items ≡ entries_from 0 (take l.place l.deps);
  full : (k : ℕ) (d : Edge) → k < l.place → IsFull (get_or l.deps k d);
}
