-- Sets of columns by which tables are asked.
use Rattle.std.specs.Prelude.{Bool, List, nat_eq}
use Rattle.std.specs.List.{list_any}
use Rattle.std.specs.Cmp.Lexicographic.{pointwise}
use Rattle.plain_values.specs.SortedSet as set
use Rattle.lens_specs.specs.Names.{Name, Names}

-- whether two names are the same
abbrev pub same_name : Name → Name → Bool
same_name = pointwise nat_eq

-- whether two sets of names are the same
abbrev pub same_names : Names → Names → Bool
same_names C D = pointwise same_name (set.items C) (set.items D)

-- whether one of the column sets is this one
abbrev pub has_cols : List Names → Names → Bool
has_cols indexes C = list_any (λ D. same_names D C) indexes
