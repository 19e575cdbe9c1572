-- Added rows that take the place of removed ones.
use Rattle.std.specs.Prelude.{◌≡◌, true}
use Rattle.plain_values.specs.Row.{Row}
use Rattle.lens_specs.specs.Common.{Delta, Edge, has, agree}

-- the rows agree on both sides of the edge
abbrev pub Alike : Edge → Row → Row → Type 0
Alike e r q = (agree e.left r q ≡ true) × (agree e.right r q ≡ true)

-- each added row is alike to a removed one
abbrev pub AreReplaced : Edge → Delta → Type 0
AreReplaced e d = (r : Row) → has d.add r ≡ true → (q : Row) × (has d.remove q ≡ true) × Alike e r q
