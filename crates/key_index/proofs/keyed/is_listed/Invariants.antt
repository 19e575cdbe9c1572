use Rattle.std.proofs.Common.{◌≡◌, drop}
use Rattle.plain_values.specs.SortedSet as set
use Rattle.key_index.specs.Lists.{rows_of}
use Rattle.key_index.proofs.keyed.is_listed.Given as goal

-- the answer is the one for what is left
abbrev pub invariant-loop-keyed : goal.invariant-loop-keyed
invariant-loop-keyed l = set.contains (rows_of l.list) l.row ≡ set.contains (rows_of (drop l.keyed-index l.list)) l.row
