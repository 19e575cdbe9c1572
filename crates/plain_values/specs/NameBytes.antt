-- How a name is held: its bytes in an array with zeros after them, and the number that its first bytes spell.
use Rattle.std.specs.Prelude.{◌≡◌, ℕ, zero, suc, ◌+◌, ◌-◌, ◌*◌, ◌≤◌, List, [], ◌∷◌, ◌++◌, length, take, replicate, IsTrue}
use Rattle.plain_values.specs.Bytes.{is_name}

-- the bytes with zeros after them, 32 in all
abbrev pub padded : List ℕ → List ℕ
padded v = v ++ replicate (32 - length v) 0

-- the number that the first k of the bytes spell after n, the greatest first, with zeros where they end
abbrev pub spelt : ℕ → ℕ → List ℕ → ℕ
spelt zero n bytes = n
spelt (suc k) n [] = spelt k (n * 256) []
spelt (suc k) n (b ∷ bytes) = spelt k (n * 256 + b) bytes

-- the first `len` bytes are a name, zeros follow, and `front` is what the first eight spell
pub record KeepsName (bytes : List ℕ) (len front : ℕ) : Type 0 where
  pub name : IsTrue (is_name (take len bytes))
  pub within : len ≤ length bytes
  pub whole : bytes ≡ padded (take len bytes)
  pub first : front ≡ spelt 8 0 (take len bytes)
