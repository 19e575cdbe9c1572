use Rattle.std.proofs.Common.{◌≡◌, ◌≤◌, ◌+◌, ◌*◌, ℕ, [], drop, length}
use Rattle.revision.specs.Near.{near_from}
use Rattle.revision.proofs.nearing.near_row.Given as goal

abbrev pub invariant-loop-edge : goal.invariant-loop-edge
invariant-loop-edge g l =
    let M = (g.K.Look.relation l.look).rows in
    (near_from (drop l.edge-index l.tree) M l.row l.near.items ≡ near_from l.tree M l.row [])
    × ((n : ℕ) → g.K.Look.within l.look n → l.looked ≤ l.initial.looked + n * l.edge-index)
    × ((n : ℕ) → g.K.Look.within l.look n → length l.near.items ≤ n * l.edge-index)
