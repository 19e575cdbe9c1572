-- An index from the names of the left sides to the places of their edges.
use Rattle.std.specs.Prelude.{ℕ, suc, ◌<◌, ◌++◌, List, [], ◌∷◌, length, map, slice_index_or}
use Rattle.std.specs.declared.cmp.Ordering.{Ordering}
use Rattle.std.specs.Ordering.{nat_cmp, on, then_cmp}
use Rattle.plain_values.specs.Order.{bytes_cmp}
use Rattle.plain_values.specs.SortedSet as set
use Rattle.lens_specs.specs.Common.{Name, Edge}

-- a name, and the place of an edge that has it on the left
abbrev pub Entry : Type 0
Entry = Name × ℕ

-- by the name, and then by the place
abbrev pub entry_cmp : Entry → Entry → Ordering
entry_cmp = then_cmp (on (λ e. e.0) bytes_cmp) (on (λ e. e.1) nat_cmp)

-- the entries of the edges, whose places begin at n
abbrev pub entries_from : ℕ → List Edge → List Entry
entries_from n [] = []
entries_from n (e ∷ es) = map (λ c. (c, n)) (set.items e.left) ++ entries_from (suc n) es

-- each place is below n
abbrev pub PlacesBelow : ℕ → List Entry → Type 0
PlacesBelow n es = (k : ℕ) (d : Entry) → k < length es → (slice_index_or es k d).1 < n
