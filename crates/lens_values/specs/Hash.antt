-- A hash of values, to which equal values add the same.
use Rattle.std.specs.Prelude.{ℕ, ◌+◌, ◌*◌, ◌^◌, ◌%◌, fold, length}
use Rattle.std.specs.Int.{cast_unsigned, from_bool, w64}
use Rattle.plain_values.specs.declared.value.Value.{Value}
use Rattle.plain_values.specs.declared.value.Value.TheVariants.{Null, Int, Text, Flag}

-- the hash after one more number, modulo 2^64
unfoldable pub hash_number : ℕ → ℕ → ℕ
hash_number hash n = (hash * (2 ^ 40 + 435) + n) % 2 ^ 64

-- the hash after one more value: the least number for null, a number, the length and the bytes of a text, or 0 or 1
abbrev pub hash_value : ℕ → Value → ℕ
hash_value hash Null = hash_number hash (2 ^ 63)
hash_value hash (Int z) = hash_number hash (cast_unsigned w64 z)
hash_value hash (Text bytes) = fold hash_number (hash_number hash (length bytes)) bytes
hash_value hash (Flag b) = hash_number hash (from_bool b)
