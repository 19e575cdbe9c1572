-- The two parts of a joined row.
use Rattle.std.specs.Prelude.{◌≡◌, Bool, ◌&&◌, ◌||◌, not}
use Rattle.plain_values.specs.Part.{restrict}
use Rattle.plain_values.specs.SortedSet as set
use Rattle.plain_values.specs.Row.{Row}
use Rattle.lens_specs.specs.Common.{Columns, names, Delta, Names, Rows, has}
use Rattle.join_delta.specs.declared.sides.Sides.{Sides}

-- the names of the columns of both sources, and the shared ones
pub record AreSides (U V : Columns) (s : Sides) : Type 0 where
  pub left : s.left ≡ names U
  pub right : s.right ≡ names V
  pub shared : s.shared ≡ set.intersection (names U) (names V)

-- the row's part over U is in M, and its part over V in N
abbrev pub has_parts : Names → Names → Rows → Rows → Row → Bool
has_parts U V M N q = has M (restrict U q) && has N (restrict V q)

-- the edit adds the row, or leaves it and it has its parts in M and N
abbrev pub shows : Names → Names → Rows → Rows → Delta → Row → Bool
shows U V M N d q = has d.add q || (not (has d.remove q) && has_parts U V M N q)
