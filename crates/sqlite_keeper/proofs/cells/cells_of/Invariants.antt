use Rattle.std.proofs.Common.{◌≡◌, length, map}
use Rattle.sqlite_value.specs.Value.{owned}
use Rattle.sqlite_keeper.proofs.CellsListed.{cells_to}
use Rattle.sqlite_keeper.proofs.cells.cells_of.Given as goal

-- what stands for the values so far, in their order
abbrev pub invariant-loop-column : goal.invariant-loop-column
invariant-loop-column l = map owned l.cells.items ≡ cells_to l.columns l.values (length l.yielded)
