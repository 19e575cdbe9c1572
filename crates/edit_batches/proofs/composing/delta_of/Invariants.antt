use Rattle.std.proofs.Common.{◌≡◌, map, drop}
use Rattle.lens_laws.proofs.Common.{delta_for}
use Rattle.signed_delta.specs.Tables.{table_delta}
use Rattle.edit_batches.proofs.composing.delta_of.Given as goal

-- the answer is the one for what is left
abbrev pub invariant-loop-change : goal.invariant-loop-change
invariant-loop-change l = delta_for l.name (map table_delta l.list) ≡ delta_for l.name (map table_delta (drop l.change-index l.list))
