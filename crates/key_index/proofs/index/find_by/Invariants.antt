use Rattle.std.proofs.Common.{◌≡◌, drop, true}
use Rattle.key_index.specs.Lists.{cols_of}
use Rattle.key_index.specs.Cols.{has_cols}
use Rattle.key_index.proofs.index.find_by.Given as goal

-- one of the indexes that are left is by the columns
abbrev pub invariant-loop-index : goal.invariant-loop-index
invariant-loop-index l = has_cols (cols_of (drop l.index-index l.indexes)) l.cols ≡ true
