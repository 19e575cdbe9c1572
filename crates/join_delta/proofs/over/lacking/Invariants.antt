use Rattle.std.proofs.Common.{◌≡◌, ◌≤◌, ◌+◌, ◌*◌, ℕ, not, take, filter}
use Rattle.plain_values.specs.SortedSet as set
use Rattle.join_delta.specs.Pairs.{shows}
use Rattle.join_delta.proofs.over.lacking.Given as goal

abbrev pub invariant-loop-row : goal.invariant-loop-row
invariant-loop-row g l =
    let shown = shows l.sides.left l.sides.right (g.A.Look.relation l.left).rows (g.B.Look.relation l.right).rows l.delta in
    (l.some.items ≡ filter (λ row. not (shown row)) (take l.row-index (set.items l.rows)))
    × ((a b : ℕ) → g.A.Look.within l.left a → g.B.Look.within l.right b → l.looked ≤ l.initial.looked + (a + b) * l.row-index)
