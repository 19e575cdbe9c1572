-- What the parts of a definition are made of.
use Rattle.std.specs.Prelude.{◌≡◌, ◌≤◌, ℕ, List, true}
use Rattle.std.specs.List.{list_all}
use Rattle.plain_values.specs.declared.value.Kind.{Kind}
use Rattle.plain_values.specs.SortedMap.{keys_of}
use Rattle.lens_values.specs.Repeats.{count_of}
use Rattle.lens_specs.specs.Predicate.{Predicate}
use Rattle.lens_pred.specs.NormalForm.{is_conjunct}

-- they are in normal form
abbrev pub AreNormal : Predicate → Type 0
AreNormal conjuncts = list_all is_conjunct conjuncts ≡ true

-- no two columns have the same name
abbrev pub HasNoRepeat : List (List ℕ × Kind) → Type 0
HasNoRepeat cs = (name : List ℕ) → count_of name (keys_of cs) ≤ 1
