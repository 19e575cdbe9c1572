use Rattle.std.proofs.Common.{◌≡◌, take}
use Rattle.plain_values.proofs.Common.{fold}
use Rattle.plain_values.specs.SortedSet as set
use Rattle.lens_specs.specs.Common.{at}
use Rattle.fd_tree.specs.RowHash.{hash_at}
use Rattle.fd_tree.proofs.hashing.hash_row.Given as goal

abbrev pub invariant-loop-name : goal.invariant-loop-name
invariant-loop-name l = l.hash ≡ fold (λ hash c. hash_at hash (at l.row c)) 0 (take l.name-index (set.items l.cols))
