-- Columns and rows of one name, and the refusals of a drop.
use Rattle.std.proofs.Common.{◌≡◌, ◌∙◌, Bool, true, false, cond, not, ap, sym, refl, None}
use Rattle.std.specs.FinMap as map
use Rattle.plain_values.specs.Part.{exclude}
use Rattle.plain_values.specs.SortedSet as set
use Rattle.fd_laws.proofs.Common.{name_total, name_exact, one_is, get-without_other, get-without_same}
use Rattle.lens_specs.specs.Common.{Name, one, Columns, without_column}

outside : (U : Columns) (A c : Name) (b : Bool) → set.contains (one A) c ≡ b → cond (not b) (map.get U c) None ≡ map.get (without_column U A) c
outside U A c true i = sym (ap (map.get (without_column U A)) (one_is A c i) ∙ get-without_same U A)
outside U A c false o = sym (get-without_other U A c o)

-- the columns outside of one are those without it
pub exclude-one : (U : Columns) (A : Name) → exclude (one A) U ≡ without_column U A
exclude-one U A = map.same_map name_total name_exact _ _ (λ c.
    map.get-retain_keys U (λ c. not (set.contains (one A) c)) c (λ x tie. ap (λ d. not (set.contains (one A) d)) (sym (name_exact c x tie)))
    ∙ outside U A c (set.contains (one A) c) refl)
