-- Names with a value for each.
use Rattle.std.specs.Prelude.{◌≡◌, ℕ, List, length}
use Rattle.std.specs.List.{zip}
use Rattle.plain_values.specs.Names.{Names}
use Rattle.plain_values.specs.SortedSet as set

-- there are as many values as names
abbrev pub AreAsMany : {X : Type 0} → Names → List X → Type 0
AreAsMany C xs = length (set.items C) ≡ length xs

-- each name, in rising order, with the value at its place
abbrev pub paired : {X : Type 0} → Names → List X → List (List ℕ × X)
paired C xs = zip (set.items C) xs
