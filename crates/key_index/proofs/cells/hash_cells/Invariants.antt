use Rattle.std.proofs.Common.{◌≡◌, fold, take, map}
use Rattle.std.specs.FinMap as finmap
use Rattle.key_index.specs.Key.{hash_cell}
use Rattle.key_index.proofs.cells.hash_cells.Given as goal

-- the hash is that of the cells so far
abbrev pub invariant-loop-place : goal.invariant-loop-place
invariant-loop-place l = l.hash ≡ fold hash_cell 0 (map (λ c. finmap.get l.row c) (take l.place l.names))
