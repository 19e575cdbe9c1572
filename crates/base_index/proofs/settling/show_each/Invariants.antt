use Rattle.std.proofs.Common.{◌≡◌, take}
use Rattle.plain_values.specs.SortedSet as set
use Rattle.key_index.proofs.Common.{set_of}
use Rattle.base_index.proofs.settling.show_each.Given as goal

abbrev pub invariant-loop-row : goal.invariant-loop-row
invariant-loop-row l = l.hidden ≡ set.difference l.fn.hidden (set_of (take l.row-index l.list))
