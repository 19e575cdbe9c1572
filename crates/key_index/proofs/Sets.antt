-- Sets of names that are the same, and rows after a difference.
use Rattle.std.proofs.Common.{◌≡◌, ℕ, List, [], ◌∷◌, ap, sym, ◌∙◌, refl, Bool, true, false, ◌&&◌, ◌||◌, not}
use Rattle.plain_values.proofs.Common.{nat_list_cmp_total, pointwise, same_text, and_parts, false≢true, row_cmp_total, row_cmp-IsAntisymmetric, exact}
use Rattle.plain_values.specs.SortedSet as set
use Rattle.lens_specs.specs.Common.{Applies, Delta, new_view, Names, Rows}
use Rattle.key_index.specs.Cols.{same_name, same_names}

same_lists : (xs ys : List (List ℕ)) → pointwise same_name xs ys ≡ true → xs ≡ ys
same_lists [] [] h = refl
same_lists [] (y ∷ ys) h = cc
same_lists (x ∷ xs) [] h = cc
same_lists (x ∷ xs) (y ∷ ys) h =
    let parts = and_parts (same_name x y) (pointwise same_name xs ys) h in
    let head = same_text x y (sym parts.0) in let rest = same_lists xs ys parts.1 in λ i. head i ∷ rest i

-- sets of names that pass the test are one
pub same_names_are : (C D : Names) → same_names C D ≡ true → C ≡ D
same_names_are C D h =
    sym (set.from_list-items nat_list_cmp_total exact C) ∙ ap set.from_list (same_lists (set.items C) (set.items D) h) ∙ set.from_list-items nat_list_cmp_total exact D

staged : (a p r : Bool) → (p ≡ true → a ≡ false) → (r ≡ true → a ≡ true) → ((a || p) && not r) ≡ ((a && not r) || p)
staged true true r f g = absurd (false≢true (sym (f refl)))
staged true false true f g = refl
staged true false false f g = refl
staged false p true f g = absurd (false≢true (g refl))
staged false true false f g = refl
staged false false false f g = refl

-- what is added first and removed then is what the difference makes
pub next_is : (d : Delta) (rows : Rows) → Applies d rows → set.difference (set.union rows d.add) d.remove ≡ new_view rows d
unfolding new_view
next_is d rows applies = set.same_set row_cmp_total row_cmp-IsAntisymmetric _ _ (λ x.
    set.contains-difference row_cmp_total (set.union rows d.add) d.remove x
    ∙ ap (λ b. b && not (set.contains d.remove x)) (set.contains-union row_cmp_total rows d.add x)
    ∙ staged (set.contains rows x) (set.contains d.add x) (set.contains d.remove x) (applies.adds x) (applies.removes x)
    ∙ ap (λ b. b || set.contains d.add x) (sym (set.contains-difference row_cmp_total rows d.remove x))
    ∙ sym (set.contains-union row_cmp_total (set.difference rows d.remove) d.add x))

-- a set is that of its list
pub listed_whole : (rows : Rows) → set.from_list (set.items rows) ≡ rows
listed_whole rows = set.from_list-items row_cmp_total row_cmp-IsAntisymmetric rows
