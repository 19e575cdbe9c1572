use Rattle.std.proofs.Common.{◌≡◌, drop, map}
use Rattle.std.specs.FinMap as finmap
use Rattle.key_index.specs.Key.{cells_cmp}
use Rattle.key_index.proofs.cells.cells_cmp.Given as goal

-- the answer is the one for what is left
abbrev pub invariant-loop-place : goal.invariant-loop-place
invariant-loop-place l =
    cells_cmp (map (λ c. finmap.get l.row c) l.own_cols) (map (λ c. finmap.get l.other c) l.other_cols)
    ≡ cells_cmp (map (λ c. finmap.get l.row c) (drop l.place l.own_cols)) (map (λ c. finmap.get l.other c) (drop l.place l.other_cols))
