-- The bytes of a text, wherever they lie.
use Rattle.std.specs.Prelude.{ℕ, List, string_bytes}
use Rattle.plain_values.specs.declared.text.TextBytes.{TextBytes}
use Rattle.plain_values.specs.declared.text.TextBytes.TheVariants.{Short, Long}

-- those of a short text in its value, or those that its copies share
abbrev pub bytes_of : TextBytes → List ℕ
bytes_of (Short s) = s
bytes_of (Long r) = string_bytes r.value
