use Rattle.std.proofs.Common.{◌≡◌, ◌≤◌, ◌+◌, ◌*◌, ℕ, length, take, map}
use Rattle.drop_delta.specs.Dropped.{BothFill, filled_in}
use Rattle.drop_delta.proofs.editing.filled_sides.Given as goal

abbrev pub invariant-loop-place : goal.invariant-loop-place
invariant-loop-place g l =
    let M = (g.S.Look.relation l.source).rows in
    let f = filled_in l.dropped.col.now l.dropped.by.now l.dropped.fill.now M in
    (l.remove.items ≡ map f (take l.place l.removed))
    × (l.add.items ≡ map f (take l.place l.added))
    × BothFill l.dropped.col.now l.dropped.by.now l.dropped.fill.now M l.fillings
    × ((n : ℕ) → g.S.Look.within l.source n → l.looked ≤ l.fn.looked + n * (length (take l.place l.removed) + length (take l.place l.added)))
