-- Which bytes are a text or a name.
use Rattle.std.specs.Prelude.{ℕ, Bool, not, ◌&&◌, ◌||◌, List, length, slice_index, nat_le, ◌==◌}
use Rattle.std.specs.List.{list_any, list_all}

-- at most 4,096 bytes, and no U+0000
abbrev pub is_text : List ℕ → Bool
is_text bytes = nat_le (length bytes) 4096 && not (list_any (λ b. b == 0) bytes)

-- a lower-case letter or `_`
abbrev pub is_lower : ℕ → Bool
is_lower b = (nat_le 97 b && nat_le b 122) || b == 95

-- a lower-case letter, `_` or a digit
abbrev pub is_name_byte : ℕ → Bool
is_name_byte b = is_lower b || (nat_le 48 b && nat_le b 57)

-- `[a-z_][a-z0-9_]*`, 1 to 32 bytes
abbrev pub is_name : List ℕ → Bool
is_name bytes = not (length bytes == 0) && nat_le (length bytes) 32 && (is_lower (slice_index bytes 0) && list_all is_name_byte bytes)
