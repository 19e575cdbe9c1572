-- Maps made by walks along their entries.
use Rattle.std.proofs.Common.{◌≡◌, ℕ, List, [], ◌∷◌, ◌++◌, ap, sym, subst, ◌∙◌, refl, Bool, true, false, cond, not, filter, Option, Some, option_map}
use Rattle.std.specs.List.Sorted.{IsStrictlySortedBy}
use Rattle.std.specs.Ordering.{eq_by_cmp}
use Rattle.std.specs.Cmp.Lexicographic.{nat_list_cmp_total}
use Rattle.std.specs.FinMap as finmap
use Rattle.std.specs.FinMap.{IsAntisymmetric, slice_cmp-IsAntisymmetric, nat_cmp-IsAntisymmetric}
use Rattle.std.proofs.lemmas.List.Kept.{IsStrictlySortedBy-filter}
use Rattle.plain_values.specs.Keys.{first_with, is_among}
use Rattle.plain_values.specs.Names.{Names}
use Rattle.plain_values.specs.Order.{bytes_cmp}
use Rattle.plain_values.specs.Part.{override, restrict, exclude, from_entries-filter}
use Rattle.plain_values.specs.SortedMap.{keys_of, keys_rise}
use Rattle.plain_values.specs.SortedSet as set
use Rattle.plain_values.proofs.Parts.{keys_of-filter}

pub exact : IsAntisymmetric bytes_cmp
exact = slice_cmp-IsAntisymmetric nat_cmp-IsAntisymmetric

abbrev MapOf : Type 0 → Type 0
MapOf X = finmap.FinMap bytes_cmp X

abbrev EntriesOf : Type 0 → Type 0
EntriesOf X = List (List ℕ × X)

module _ {X : Type 0} where
  found_first : (q : List ℕ) (e : List ℕ × X) (b : Bool) (o : Option X) (p : Option (List ℕ × X)) → o ≡ option_map (λ e. e.1) p → cond b (Some e.1) o ≡ option_map (λ e. e.1) (cond b (Some e) p)
  found_first q e true o p is = refl
  found_first q e false o p is = is

  find-first_with : (q : List ℕ) (es : EntriesOf X) → finmap.find bytes_cmp q es ≡ option_map (λ e. e.1) (first_with bytes_cmp (λ e. e.0) es q)
  find-first_with q [] = refl
  find-first_with q (e ∷ es) = found_first q e (eq_by_cmp bytes_cmp q e.0) _ _ (find-first_with q es)

  -- the keys of a map's entries rise
  pub entries_rise : (m : MapOf X) (es : EntriesOf X) → es ≡ finmap.entries m → IsStrictlySortedBy bytes_cmp (keys_of es)
  entries_rise m es is = subst (λ l. IsStrictlySortedBy bytes_cmp (keys_of l)) (sym is) (keys_rise bytes_cmp m)

  -- those of a filter too
  pub part_rises : (m : MapOf X) (p : List ℕ → Bool) (es part : EntriesOf X) → es ≡ finmap.entries m → part ≡ filter (λ e. p e.0) es → IsStrictlySortedBy bytes_cmp (keys_of part)
  part_rises m p es part is made = subst (λ l. IsStrictlySortedBy bytes_cmp (keys_of l)) (sym made)
      (subst (IsStrictlySortedBy bytes_cmp) (sym (keys_of-filter p es)) (IsStrictlySortedBy-filter bytes_cmp p _ (entries_rise m es is)))

  pub both_made : (m n : MapOf X) (es fs all : EntriesOf X) → es ≡ finmap.entries m → fs ≡ finmap.entries n
      → ((k : List ℕ) → first_with bytes_cmp (λ e. e.0) all k ≡ first_with bytes_cmp (λ e. e.0) (es ++ fs) k) → finmap.from_entries all ≡ override m n
  both_made m n es fs all e f alike = finmap.same_map nat_list_cmp_total exact _ _ (λ k.
      finmap.get-from_entries nat_list_cmp_total all k ∙ find-first_with k all ∙ ap (option_map (λ e. e.1)) (alike k)
      ∙ sym (find-first_with k (es ++ fs)) ∙ (λ i. finmap.find bytes_cmp k (e i ++ f i))
      ∙ sym (finmap.get-from_entries nat_list_cmp_total (finmap.entries m ++ finmap.entries n) k))

  pub part_made : (C : Names) (m : MapOf X) (ns : List (List ℕ)) (es part : EntriesOf X) → ns ≡ set.items C → es ≡ finmap.entries m
      → part ≡ filter (λ e. is_among bytes_cmp ns e.0) es → finmap.from_entries part ≡ restrict C m
  part_made C m ns es part is e made =
      ap finmap.from_entries (made ∙ (λ i. filter (λ e. is_among bytes_cmp (is i) e.0) (e i)))
      ∙ from_entries-filter (is_among bytes_cmp (set.items C)) m
      ∙ (λ i. finmap.retain_keys m (λ c. sym (set.contains-items C c) i))

  pub outside_made : (C : Names) (m : MapOf X) (ns : List (List ℕ)) (es part : EntriesOf X) → ns ≡ set.items C → es ≡ finmap.entries m
      → part ≡ filter (λ e. not (is_among bytes_cmp ns e.0)) es → finmap.from_entries part ≡ exclude C m
  outside_made C m ns es part is e made =
      ap finmap.from_entries (made ∙ (λ i. filter (λ e. not (is_among bytes_cmp (is i) e.0)) (e i)))
      ∙ from_entries-filter (λ c. not (is_among bytes_cmp (set.items C) c)) m
      ∙ (λ i. finmap.retain_keys m (λ c. not (sym (set.contains-items C c) i)))
