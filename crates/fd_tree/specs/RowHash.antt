-- A hash of the values that a row has in some columns: rows that agree there have one hash.
use Rattle.std.specs.Prelude.{ℕ, Option, Some, None}
use Rattle.std.specs.List.{fold}
use Rattle.lens_values.specs.Hash.{hash_number, hash_value}
use Rattle.plain_values.specs.SortedSet as set
use Rattle.plain_values.specs.Row.{Row}
use Rattle.plain_values.specs.declared.value.Value.{Value}
use Rattle.lens_specs.specs.Common.{Names, at}

-- the hash after the value of one more column, or after the mark of a missing one
abbrev pub hash_at : ℕ → Option Value → ℕ
hash_at hash None = hash_number hash 0
hash_at hash (Some value) = hash_value hash value

-- the hash of the values of a row in the columns
unfoldable pub hash_row : Names → Row → ℕ
hash_row C r = fold (λ hash c. hash_at hash (at r c)) 0 (set.items C)
