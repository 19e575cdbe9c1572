use Rattle.std.proofs.Common.{◌≡◌, take}
use Rattle.plain_values.proofs.Common.{keys_of}
use Rattle.lens_values.proofs.columns.names_in.Given as goal

abbrev pub invariant-loop-pair : goal.invariant-loop-pair
invariant-loop-pair l = l.list.items ≡ keys_of (take l.pair-index l.pairs)
