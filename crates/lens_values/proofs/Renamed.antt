-- Names with one of them exchanged for another.
use Rattle.std.proofs.Common.{◌≡◌, ℕ, false, cond, List, [], ◌∷◌, map, refl, ap, ◌∙◌, sym, inl, inr}
use Rattle.plain_values.proofs.Common.{cases_Bool, or_parts, true≢false, list_any, eq_by_cmp, nat_list_cmp_total, bytes_cmp, renamed, Names, exact, is_tie}
use Rattle.plain_values.specs.SortedSet as set

abbrev Name : Type 0
Name = List ℕ

-- a name is told by itself
swapped : (x y : Name) → eq_by_cmp bytes_cmp x y ≡ false → eq_by_cmp bytes_cmp y x ≡ false
swapped x y e = elim (cases_Bool (eq_by_cmp bytes_cmp y x)) [
  | inr f ↦ f
  | inl t ↦
      let is : y ≡ x = exact y x (is_tie (bytes_cmp y x) t) in
      absurd (true≢false (sym t ∙ ap (λ z. eq_by_cmp bytes_cmp z x) is ∙ ap (eq_by_cmp bytes_cmp x) (sym is) ∙ e))
]

list_without : (A B : Name) (ns : List Name) → list_any (eq_by_cmp bytes_cmp A) ns ≡ false → map (renamed A B) ns ≡ ns
list_without A B [] h = refl
list_without A B (n ∷ ns) h =
    let w = or_parts (eq_by_cmp bytes_cmp A n) (list_any (eq_by_cmp bytes_cmp A) ns) h in
    ap (λ b. cond b B n ∷ map (renamed A B) ns) (swapped A n w.0) ∙ ap (λ l. n ∷ l) (list_without A B ns w.1)

-- a set that lacks the name stays
pub without_it : (A B : Name) (C : Names) → set.contains C A ≡ false → set.image (renamed A B) C ≡ C
without_it A B C h = ap set.from_list (list_without A B (set.items C) (sym (set.contains-items C A) ∙ h)) ∙ set.from_list-items nat_list_cmp_total exact C
