use Rattle.std.proofs.Common.{◌≡◌, ◌≤◌, ◌+◌, ◌*◌, ℕ, [], length, take, flat_map}
use Rattle.revision.specs.Near.{near_from}
use Rattle.revision.proofs.nearing.near_by_rows.Given as goal

abbrev pub invariant-loop-row : goal.invariant-loop-row
invariant-loop-row g l =
    (l.near.items ≡ flat_map (λ p. near_from l.tree (g.K.Look.relation l.look).rows p []) (take l.row-index l.row-items))
    × ((n : ℕ) → g.K.Look.within l.look n → l.looked ≤ l.initial.looked + n * length l.tree * l.row-index)
    × ((n : ℕ) → g.K.Look.within l.look n → length l.near.items ≤ n * length l.tree * l.row-index)
