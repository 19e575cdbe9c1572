use Rattle.std.proofs.Common.{◌≡◌, ◌++◌, map, take, drop, true}
use Rattle.base_index.specs.Several.{AreHeld, taken_back}
use Rattle.base_index.proofs.several.back_each.Given as goal

-- the first tables were gone through, and the others stay
abbrev pub invariant-loop-i : goal.invariant-loop-i
invariant-loop-i l =
    (l.tables.items ≡ map taken_back (take l.i l.fn.tables.items) ++ drop l.i l.fn.tables.items)
    × AreHeld true (drop l.i l.fn.tables.items)
