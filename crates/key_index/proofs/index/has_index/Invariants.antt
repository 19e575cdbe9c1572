use Rattle.std.proofs.Common.{◌≡◌, drop}
use Rattle.key_index.specs.Lists.{cols_of}
use Rattle.key_index.specs.Cols.{has_cols}
use Rattle.key_index.proofs.index.has_index.Given as goal

-- the answer is the one for the indexes that are left
abbrev pub invariant-loop-index : goal.invariant-loop-index
invariant-loop-index l = has_cols (cols_of l.indexes) l.cols ≡ has_cols (cols_of (drop l.index-index l.indexes)) l.cols
