use Rattle.std.proofs.Common.{◌≡◌, ◌≤◌, ◌+◌, ◌*◌, ℕ, drop, length}
use Rattle.plain_values.specs.SortedSet as set
use Rattle.lens_laws.proofs.Common.{edit_clash}
use Rattle.lens_laws.specs.Checks.{edit_clash_from}
use Rattle.edit_check.proofs.checking.violating_pair_of_edit.Given as goal

abbrev pub invariant-loop-place : goal.invariant-loop-place
invariant-loop-place g l =
    let V = (g.K.Look.relation l.view).rows in
    (edit_clash_from l.place (drop l.place l.tree) V l.delta ≡ edit_clash l.tree V l.delta)
    × ((n : ℕ) → g.K.Look.within l.view n → l.looked ≤ l.initial.looked + n * length (set.items l.delta.add) * l.place)
