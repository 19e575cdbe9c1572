use Rattle.std.proofs.Common.{◌≡◌, ◌++◌, take, map}
use Rattle.view_reading.specs.Pasting.{part_at}
use Rattle.view_reading.proofs.joining.add_parts.Given as goal

abbrev pub invariant-loop-entry : goal.invariant-loop-entry
invariant-loop-entry l = l.parts.items ≡ l.fn.parts.items ++ map (λ e. part_at l.kept l.places l.row e.1) (take l.entry-index l.entries)
