-- Names in the order in which they come in.
use Rattle.std.specs.Prelude.{◌≡◌, ℕ, ◌<◌, ◌++◌, true, false, if◌then◌else◌, List, [], ◌∷◌, length, take, slice_index_or}
use Rattle.plain_values.specs.SortedSet as set
use Rattle.lens_specs.specs.Names.{Name, Names, is_among}
use Rattle.fd_closure.specs.declared.found.Found.{Found}

-- no name stands twice
abbrev pub IsOnce : List Name → Type 0
IsOnce ns = (k : ℕ) (d : Name) → k < length ns → is_among (slice_index_or ns k d) (take k ns) ≡ false

-- the members are the names that came in, each of them once
abbrev pub IsKept : Found → Type 0
IsKept f = ((c : Name) → is_among c f.members.keys ≡ is_among c f.order.items) × IsOnce f.order.items

-- the names with one more behind them, if it is new
abbrev pub with_name : List Name → Name → List Name
with_name ns c = if is_among c ns then ns else ns ++ c ∷ []

-- each of the names is in the set
abbrev pub AllIn : List Name → Names → Type 0
AllIn ns D = (c : Name) → is_among c ns ≡ true → set.contains D c ≡ true

-- each name of the set is among them
abbrev pub HaveAll : List Name → Names → Type 0
HaveAll ns D = (c : Name) → set.contains D c ≡ true → is_among c ns ≡ true
