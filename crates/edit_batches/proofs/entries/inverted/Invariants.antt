use Rattle.std.proofs.Common.{◌≡◌, map, take}
use Rattle.signed_delta.specs.Tables.{table_delta}
use Rattle.lens_specs.specs.Common.{inverted}
use Rattle.edit_batches.proofs.entries.inverted.Given as goal

abbrev pub invariant-loop-change : goal.invariant-loop-change
invariant-loop-change l = map table_delta l.back.items ≡ inverted (map table_delta (take l.change-index l.change-items))
