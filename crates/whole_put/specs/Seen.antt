-- Entries of a map, each with what is seen of its value.
use Rattle.std.specs.Prelude.{List, map}
use Rattle.lens_specs.specs.Names.{Name}

-- the entries, with what f sees of each value
abbrev pub seen_entries : {X Y : Type 0} → (X → Y) → List (Name × X) → List (Name × Y)
seen_entries f es = map (λ e. (e.0, f e.1)) es
