use Rattle.std.proofs.Common.{◌≡◌, ◌++◌, take}
use Rattle.table_keeper.specs.Changes.{names_of}
use Rattle.database_opening.proofs.tables.with_kept.Given as goal

abbrev pub invariant-loop-kept : goal.invariant-loop-kept
invariant-loop-kept l = l.names.items ≡ l.defined ++ names_of (take l.kept-index l.tables)
