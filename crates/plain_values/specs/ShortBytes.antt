-- How an array holds a short text: its bytes, none of which is zero, and zeros after them.
use Rattle.std.specs.Prelude.{◌≡◌, ℕ, Bool, not, ◌&&◌, ◌==◌, ◌-◌, ◌≤◌, List, ◌++◌, length, take, replicate, nat_le, IsTrue, IsUtf8}
use Rattle.std.specs.List.{list_all}

-- a byte other than zero
abbrev pub is_text_byte : ℕ → Bool
is_text_byte b = not (b == 0) && nat_le b 255

-- the bytes with zeros after them, 22 in all
abbrev pub padded : List ℕ → List ℕ
padded v = v ++ replicate (22 - length v) 0

-- the first `len` bytes are a text, and zeros follow
pub record KeepsShort (bytes : List ℕ) (len : ℕ) : Type 0 where
  pub text : IsTrue (list_all is_text_byte (take len bytes))
  pub utf8 : ∥ IsUtf8 (take len bytes) ∥₁
  pub within : len ≤ length bytes
  pub full : length bytes ≡ 22
  pub whole : bytes ≡ padded (take len bytes)
