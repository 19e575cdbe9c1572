use Rattle.std.proofs.Common.{◌≤◌, ◌+◌, ◌*◌, ℕ}
use Rattle.lens_laws.proofs.Common.{size}
use Rattle.lens_probe.specs.NearRows.{AreOfJoin}
use Rattle.lens_probe.specs.Looking.{LooksWithin}
use Rattle.lens_probe.proofs.near.near_each.Given as goal

abbrev pub invariant-loop-row : goal.invariant-loop-row
invariant-loop-row g l =
    AreOfJoin l.lens l.tables.present l.near.items
    × ((w : ℕ) → LooksWithin l.lens l.tables.present w → l.looked ≤ l.initial.looked + size l.lens w * l.row-index)
