use Rattle.std.proofs.Common.{◌≡◌, ◌++◌, map, take, drop}
use Rattle.base_index.specs.Several.{AreQuiet, kept}
use Rattle.base_index.proofs.several.keep_each.Given as goal

-- the first tables were gone through, and the others stay
abbrev pub invariant-loop-i : goal.invariant-loop-i
invariant-loop-i l =
    (l.tables.items ≡ map kept (take l.i l.fn.tables.items) ++ drop l.i l.fn.tables.items)
    × AreQuiet (drop l.i l.fn.tables.items)
