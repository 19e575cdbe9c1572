-- The sets of columns that a view hands down to its sources.
use Rattle.std.specs.Prelude.{List, [], ◌∷◌, map}
use Rattle.plain_values.specs.SortedSet as set
use Rattle.lens_specs.specs.Common.{Names, Lens, base, select, drop, rename, view_names, renamed_names}
use Rattle.lens_specs.specs.Lens.{join}
use Rattle.lens_laws.specs.Asked.{keys_at, side_keys}

-- what a view of the lens, to which K was handed down, hands down to its first source
abbrev pub to_first : Lens → List Names → List Names
to_first (base t s) K = []
to_first (select P L) K = keys_at (select P L) K
to_first (drop A X a L) K = X ∷ keys_at (drop A X a L) K
to_first (rename A B L) K = map (renamed_names B A) (keys_at (rename A B L) K)
to_first (join k A B) K =
    let U = view_names A in let V = view_names B in
    side_keys (set.intersection U V) U (keys_at (join k A B) K)

-- and to its second one
abbrev pub to_second : Lens → List Names → List Names
to_second (base t s) K = []
to_second (select P L) K = []
to_second (drop A X a L) K = []
to_second (rename A B L) K = []
to_second (join k A B) K =
    let U = view_names A in let V = view_names B in
    side_keys (set.intersection U V) V (keys_at (join k A B) K)
