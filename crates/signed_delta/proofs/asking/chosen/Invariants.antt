use Rattle.std.proofs.Common.{◌≡◌, ◌≤◌, ◌+◌, ◌*◌, ℕ, take, filter}
use Rattle.plain_values.specs.SortedSet as set
use Rattle.signed_delta.specs.Chosen.{is_chosen}
use Rattle.signed_delta.proofs.asking.chosen.Given as goal

abbrev pub invariant-loop-row : goal.invariant-loop-row
invariant-loop-row g l =
    (l.some.items ≡ filter (is_chosen (g.K.Look.relation l.look).rows l.present) (take l.row-index (set.items l.rows)))
    × ((n : ℕ) → g.K.Look.within l.look n → l.looked ≤ l.initial.looked + n * l.row-index)
