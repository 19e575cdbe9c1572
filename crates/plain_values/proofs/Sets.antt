-- Sets made by walks along their lists.
use Rattle.std.proofs.Common.{◌≡◌, List, [], ◌∷◌, ◌++◌, ap, sym, subst, ◌∙◌, refl, Bool, true, false, cond, map-id, not, filter, find, is_some, Some, ◌||◌}
use Rattle.std.specs.declared.cmp.Ordering.{Ordering}
use Rattle.std.specs.List.{list_any}
use Rattle.std.specs.List.Sorted.{IsStrictlySortedBy}
use Rattle.std.specs.Ordering.{eq_by_cmp}
use Rattle.std.specs.Cmp.{IsTotalOrder}
use Rattle.std.specs.FinMap.{IsAntisymmetric}
use Rattle.std.proofs.lemmas.List.Kept.{IsStrictlySortedBy-filter}
use Rattle.plain_values.specs.Keys.{KeysRise, first_with, is_among}
use Rattle.plain_values.specs.SortedMap.{keys_rise}
use Rattle.plain_values.specs.SortedSet as set

list_any-find : {K : Type 0} (p : K → Bool) (xs : List K) → list_any p xs ≡ is_some (find p xs)
list_any-find p [] = refl
list_any-find p (x ∷ xs) = elim (p x) as (λ b. (b || list_any p xs) ≡ is_some (cond b (Some x) (find p xs))) [ true ↦ refl | false ↦ list_any-find p xs ]

module _ {K : Type 0} {R : K → K → Ordering} (o : IsTotalOrder R) (same : IsAntisymmetric R) where
  -- the members of a set rise
  pub items_rise : (s : set.SortedSet R) (xs : List K) → xs ≡ set.items s → IsStrictlySortedBy R xs
  items_rise s xs e = subst (IsStrictlySortedBy R) (sym e) (keys_rise R s)

  -- also as their own keys
  pub own_keys_rise : (s : set.SortedSet R) (xs : List K) → xs ≡ set.items s → KeysRise R (λ x. x) xs
  own_keys_rise s xs e = subst (IsStrictlySortedBy R) (sym (map-id xs)) (items_rise s xs e)

  -- a filter of them still does
  pub filter_rises : (s : set.SortedSet R) (p : K → Bool) (xs ys : List K) → xs ≡ set.items s → ys ≡ filter p xs → IsStrictlySortedBy R ys
  filter_rises s p xs ys e is = subst (IsStrictlySortedBy R) (sym is) (IsStrictlySortedBy-filter R p xs (items_rise s xs e))

  pub union_made : (s t : set.SortedSet R) (xs ys all : List K) → xs ≡ set.items s → ys ≡ set.items t
      → ((k : K) → first_with R (λ x. x) all k ≡ first_with R (λ x. x) (xs ++ ys) k) → set.from_list all ≡ set.union s t
  unfolding set.union
  union_made s t xs ys all e f alike = set.same_set o same _ _ (λ k.
      set.contains-from_list o all k ∙ list_any-find (eq_by_cmp R k) all ∙ ap is_some (alike k)
      ∙ sym (list_any-find (eq_by_cmp R k) (xs ++ ys)) ∙ (λ i. list_any (eq_by_cmp R k) (e i ++ f i))
      ∙ sym (set.contains-from_list o (set.items s ++ set.items t) k))

  pub difference_made : (s t : set.SortedSet R) (xs ys rest : List K) → xs ≡ set.items s → ys ≡ set.items t
      → rest ≡ filter (λ x. not (is_among R ys x)) xs → set.from_list rest ≡ set.difference s t
  unfolding set.difference
  difference_made s t xs ys rest e f is =
      ap set.from_list (is ∙ (λ i. filter (λ x. not (is_among R (f i) x)) (e i)))
      ∙ set.from_list-filter o same (λ x. not (is_among R (set.items t) x)) s
      ∙ (λ i. set.filter (λ x. not (sym (set.contains-items t x) i)) s)

  pub intersection_made : (s t : set.SortedSet R) (xs ys shared : List K) → xs ≡ set.items s → ys ≡ set.items t
      → shared ≡ filter (λ x. is_among R ys x) xs → set.from_list shared ≡ set.intersection s t
  unfolding set.intersection
  intersection_made s t xs ys shared e f is =
      ap set.from_list (is ∙ (λ i. filter (λ x. is_among R (f i) x) (e i)))
      ∙ set.from_list-filter o same (λ x. is_among R (set.items t) x) s
      ∙ (λ i. set.filter (λ x. sym (set.contains-items t x) i) s)

  -- the members of a filtered set
  pub items-filter : (p : K → Bool) (s : set.SortedSet R) → set.items (set.filter p s) ≡ filter p (set.items s)
  items-filter p s = ap set.items (sym (set.from_list-filter o same p s)) ∙ set.items-from_list o (filter p (set.items s)) (IsStrictlySortedBy-filter R p (set.items s) (keys_rise R s))
