use Rattle.std.proofs.Common.{◌≡◌, ◌++◌, map, take, drop, false}
use Rattle.base_index.specs.Several.{AreHeld, AreQuiet, holding}
use Rattle.base_index.proofs.several.hold_each.Given as goal

-- the first tables were gone through, and the others stay
abbrev pub invariant-loop-i : goal.invariant-loop-i
invariant-loop-i l =
    (l.tables.items ≡ map holding (take l.i l.fn.tables.items) ++ drop l.i l.fn.tables.items)
    × AreQuiet (drop l.i l.fn.tables.items)
    × AreHeld false (drop l.i l.fn.tables.items)
