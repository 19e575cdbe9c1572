-- Finite sets of names.
use Rattle.std.specs.Prelude.{ℕ, Bool, ◌&&◌, List}
use Rattle.std.specs.List.{list_any}
use Rattle.plain_values.specs.Order.{bytes_cmp}
use Rattle.plain_values.specs.SortedSet as set

-- a finite set of names, shown as their rising list
abbrev pub Names : Type 0
Names = set.SortedSet bytes_cmp

-- whether a name is in both
abbrev pub share : Names → Names → Bool
share C D = list_any (set.contains D) (set.items C)

-- the set of one name
abbrev pub one : List ℕ → Names
one A = set.insert set.empty A

-- whether both have the same names
abbrev pub same_names : Names → Names → Bool
same_names C D = set.is_subset C D && set.is_subset D C
