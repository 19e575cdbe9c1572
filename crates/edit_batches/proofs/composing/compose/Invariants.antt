use Rattle.std.proofs.Common.{◌≡◌, ◌++◌, map, drop}
use Rattle.signed_delta.specs.Tables.{table_delta}
use Rattle.lens_specs.specs.Common.{composed, composed_at}
use Rattle.edit_batches.proofs.composing.compose.Given as goal

-- with the tables that are left, it is what both do
abbrev pub invariant-loop-name : goal.invariant-loop-name
invariant-loop-name l =
    map table_delta l.both.items ++ composed_at (drop l.name-index l.name-items) (map table_delta l.first) (map table_delta l.second)
    ≡ composed (map table_delta l.first) (map table_delta l.second)
