use Rattle.std.proofs.Common.{◌≡◌, ◌≤◌, ◌+◌, ◌*◌, ℕ, drop, length}
use Rattle.plain_values.specs.SortedSet as set
use Rattle.revision.specs.Near.{near_through}
use Rattle.revision.proofs.nearing.near_by_edges.Given as goal

abbrev pub invariant-loop-edge : goal.invariant-loop-edge
invariant-loop-edge g l =
    let M = (g.K.Look.relation l.look).rows in
    (near_through (drop l.edge-index l.tree) M l.plus l.near ≡ near_through l.tree M l.plus set.empty)
    × ((n : ℕ) → g.K.Look.within l.look n → l.looked ≤ l.initial.looked + n * length (set.items l.plus) * l.edge-index)
    × ((n : ℕ) → g.K.Look.within l.look n → length (set.items l.near) ≤ n * length (set.items l.plus) * l.edge-index)
