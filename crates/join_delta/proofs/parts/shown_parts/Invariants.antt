use Rattle.std.proofs.Common.{◌≡◌, ◌≤◌, ◌+◌, ◌*◌, ℕ, take, filter}
use Rattle.plain_values.specs.SortedSet as set
use Rattle.join_delta.specs.Shown.{is_shown}
use Rattle.join_delta.proofs.parts.shown_parts.Given as goal

abbrev pub invariant-loop-part : goal.invariant-loop-part
invariant-loop-part g l =
    (l.shown.items ≡ filter (is_shown l.shared (g.A.Look.relation l.left).rows l.removed) (take l.part-index (set.items l.parts)))
    × ((n : ℕ) → g.A.Look.within l.left n → l.looked ≤ l.initial.looked + n * l.part-index)
