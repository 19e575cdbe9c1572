-- Members of lists by their keys.
use Rattle.std.specs.Prelude.{Bool, List, Option, map, find}
use Rattle.std.specs.declared.cmp.Ordering.{Ordering}
use Rattle.std.specs.List.{list_any}
use Rattle.std.specs.List.Sorted.{IsStrictlySortedBy}
use Rattle.std.specs.Ordering.{eq_by_cmp}

-- whether one of the keys ties with this one
abbrev pub is_among : {K : Type 0} → (K → K → Ordering) → List K → K → Bool
is_among R keys k = list_any (eq_by_cmp R k) keys

-- the first member whose key ties with this one
abbrev pub first_with : {K X : Type 0} → (K → K → Ordering) → (X → K) → List X → K → Option X
first_with R key xs k = find (λ x. eq_by_cmp R k (key x)) xs

-- the keys of the members rise strictly
abbrev pub KeysRise : {K X : Type 0} → (K → K → Ordering) → (X → K) → List X → Type 0
KeysRise R key xs = IsStrictlySortedBy R (map key xs)
