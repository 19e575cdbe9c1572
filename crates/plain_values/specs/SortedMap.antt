-- Entries in rising order of their keys are those of their map.
use Rattle.std.specs.Prelude.{◌≡◌, Bool, true, false, ◌&&◌, List, [], ◌∷◌, map, refl}
use Rattle.std.proofs.Common.{sym, ap, ◌∙◌, T}
use Rattle.std.specs.declared.cmp.Ordering.{Ordering}
use Rattle.std.specs.declared.cmp.Ordering.TheVariants.{Less, Equal, Greater}
use Rattle.std.specs.List.{AllByRecursion}
use Rattle.std.specs.List.Sorted.{IsStrictlySortedBy}
use Rattle.std.specs.Ordering.{is_lt}
use Rattle.std.specs.Cmp.{IsTotalOrder}
use Rattle.std.specs.FinMap as finmap
use Rattle.std.proofs.lemmas.List.{nil_from_length}

-- the names of the entries
abbrev pub keys_of : {K X : Type 0} → List (K × X) → List K
keys_of es = map (λ e. e.0) es

-- the values of the entries
abbrev pub values_of : {K X : Type 0} → List (K × X) → List X
values_of es = map (λ e. e.1) es

less : (o : Ordering) → T (is_lt o) → o ≡ Less
less Less p = refl
less Equal p = absurd p
less Greater p = absurd p

first : (a b : Bool) → T (a && b) → T a
first true b p = tt
first false b p = p

second : (a b : Bool) → T (a && b) → T b
second true b p = p
second false b p = absurd p

module _ {K : Type 0} (R : K → K → Ordering) where
  first_less : (k x : K) (xs : List K) → IsStrictlySortedBy R (k ∷ x ∷ xs) → R k x ≡ Less
  unfolding IsStrictlySortedBy
  first_less k x xs h = h.0.0

  others : (k : K) (ks : List K) → IsStrictlySortedBy R (k ∷ ks) → IsStrictlySortedBy R ks
  unfolding IsStrictlySortedBy
  others k ks h = h.1

module _ {K X : Type 0} (R : K → K → Ordering) where
  all_above : (x : K) (es : List (K × X)) → T (finmap.Entries.below_all R x es) → AllByRecursion (λ y. R x y ≡ Less) (keys_of es)
  all_above x [] h = tt
  all_above x (e ∷ es) h = (less (R x e.0) (first _ _ h), all_above x es (second _ _ h))

  rising : (es : List (K × X)) → T (finmap.is_sorted R es) → IsStrictlySortedBy R (keys_of es)
  unfolding IsStrictlySortedBy
  rising [] h = tt
  rising (e ∷ es) h = (all_above e.0 es (first _ _ h), rising es (second _ _ h))

  -- the keys of a map rise strictly
  pub keys_rise : (m : finmap.FinMap R X) → IsStrictlySortedBy R (finmap.keys m)
  keys_rise m = rising (finmap.entries m) (finmap.entries_sorted m)

  put_first : (e : K × X) (es : List (K × X)) → IsStrictlySortedBy R (e.0 ∷ keys_of es) → finmap.Entries.put R e.0 e.1 es ≡ e ∷ es
  put_first e [] h = refl
  put_first e (f ∷ es) h = rw (first_less R e.0 f.0 (keys_of es) h) refl

  -- entries whose keys rise strictly are those of their map
  pub entries-from_entries : IsTotalOrder R → (es : List (K × X)) → IsStrictlySortedBy R (keys_of es) → finmap.entries (finmap.from_entries {R = R} es) ≡ es
  entries-from_entries o [] h = nil_from_length _ (sym (finmap.len-entries (finmap.empty {X = X} {R = R})) ∙ finmap.len-empty R X)
  entries-from_entries o (e ∷ es) h =
      finmap.entries-insert o (finmap.from_entries es) e.0 e.1
      ∙ ap (finmap.Entries.put R e.0 e.1) (entries-from_entries o es (others R e.0 (keys_of es) h))
      ∙ put_first e es h

  -- a map is made of its entries
  pub from_entries-entries : IsTotalOrder R → (m : finmap.FinMap R X) → finmap.from_entries (finmap.entries m) ≡ m
  from_entries-entries o m = finmap.same_entries_map _ m (entries-from_entries o (finmap.entries m) (keys_rise m))
