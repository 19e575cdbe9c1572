-- The names of the tables of a store.
use Rattle.std.specs.Prelude.{ℕ, Bool, ◌||◌, List, codes, nat_eq}
use Rattle.std.specs.Cmp.Lexicographic.{pointwise}
use Rattle.std.specs.List.{starts_with}

-- whether a table of this name is one of a store's
abbrev pub is_of_store : List ℕ → Bool
is_of_store name = pointwise nat_eq name (codes "lens_format") || pointwise nat_eq name (codes "lens_defs") || starts_with nat_eq name (codes "t_")
