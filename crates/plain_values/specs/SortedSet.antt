-- A finite set, shown as the strictly rising list of its members. It is a `FinMap` with nothing at each key, so that it
-- can be a model's `Value`.
--     SortedSet R, code               of members in the order R;  its code, from that of the members
--     items, from_list                its members in rising order;  the set of any list's members
--     contains, insert, remove, filter, union, intersection, difference, is_subset, len, image      as Rust's `BTreeSet`, where R is total
--     contains-..                     what `contains` answers
--     same_set                        two sets with the same members are equal
--     items-from_list, items_sorted   a strictly rising list is the list of its set
use Rattle.std.specs.Prelude.{◌≡◌, ℕ, Bool, true, false, not, ◌&&◌, ◌||◌, List, [], ◌∷◌, ◌++◌, map, is_some, refl, filter as list_filter, Option, Some, None}
use Rattle.std.proofs.Common.{sym, ap, ◌∙◌, subst, cond}
use Rattle.std.specs.declared.cmp.Ordering.{Ordering}
use Rattle.std.specs.declared.cmp.Ordering.TheVariants.{Less, Equal, Greater}
use Rattle.std.specs.List.{list_any, list_all}
use Rattle.std.specs.List.Sorted.{IsStrictlySortedBy}
use Rattle.std.specs.Ordering.{eq_by_cmp, is_eq}
use Rattle.std.specs.Cmp.{IsTotalOrder, Equal-is, tied_itself, eq_by_cmp_equiv, nat_cmp_total, int_cmp_total}
use Rattle.std.specs.Cmp.Lexicographic.{nat_list_cmp_total}
use Rattle.std.proofs.lemmas.Bool.{true≢false}
use Rattle.std.specs.Coded.{Coded}
use base.Stored.{coded_unit}
use Rattle.std.specs.FinMap as map
pub use Rattle.std.specs.FinMap.{IsAntisymmetric, slice_cmp-IsAntisymmetric}
use Rattle.std.proofs.lemmas.List.{nil_from_length}

-- finite sets of members in the order R
abbrev pub SortedSet : {K : Type 0} → (K → K → Ordering) → Type 0
SortedSet R = map.FinMap R (Unit {0})

module _ {K : Type 0} {R : K → K → Ordering} where
  -- how a set is stored, from how its members are
  abbrev pub code : Coded K → Coded (SortedSet R)
  code k = map.code k coded_unit

  -- the members in rising order
  abbrev pub items : SortedSet R → List K
  items s = map.keys s

  -- whether a member of the set ties with q
  unfoldable pub contains : SortedSet R → K → Bool
  contains s q = is_some (map.get s q)

  -- the set with no member
  unfoldable pub empty : SortedSet R
  empty = map.empty

  -- the set with one member more
  unfoldable pub insert : SortedSet R → K → SortedSet R
  insert s k = map.insert s k tt

  -- the set of any list's members
  abbrev pub from_list : List K → SortedSet R
  from_list [] = empty
  from_list (k ∷ ks) = insert (from_list ks) k

  -- the members that pass the test
  unfoldable pub filter : (K → Bool) → SortedSet R → SortedSet R
  filter p s = map.retain_keys s p

  -- the members of either set
  unfoldable pub union : SortedSet R → SortedSet R → SortedSet R
  union s t = from_list (items s ++ items t)

  -- the set without one member
  unfoldable pub remove : SortedSet R → K → SortedSet R
  remove s k = map.remove s k

  -- the members of the first that are in the second
  unfoldable pub intersection : SortedSet R → SortedSet R → SortedSet R
  intersection s t = filter (contains t) s

  -- the members of the first that are not in the second
  unfoldable pub difference : SortedSet R → SortedSet R → SortedSet R
  difference s t = filter (λ k. not (contains t k)) s

  -- whether each member of the first is in the second
  unfoldable pub is_subset : SortedSet R → SortedSet R → Bool
  is_subset s t = list_all (contains t) (items s)

  -- how many members it has
  unfoldable pub len : SortedSet R → ℕ
  len s = map.len s

-- what f makes of the members
abbrev pub image : {J K : Type 0} {Q : J → J → Ordering} {R : K → K → Ordering} → (J → K) → SortedSet Q → SortedSet R
image f s = from_list (map f (items s))

some_or : (b : Bool) (x : Option (Unit {0})) → is_some (cond b (Some tt) x) ≡ (b || is_some x)
some_or true x = refl
some_or false x = refl

or_none : (b : Bool) (x : Option (Unit {0})) → is_some (cond b x None) ≡ (is_some x && b)
or_none true None = refl
or_none true (Some u) = refl
or_none false None = refl
or_none false (Some u) = refl

none_or : (b : Bool) (x : Option (Unit {0})) → is_some (cond b None x) ≡ (not b && is_some x)
none_or true x = refl
none_or false x = refl

or-true : (a : Bool) → (a || true) ≡ true
or-true true = refl
or-true false = refl

module _ {K : Type 0} (p : K → Bool) where
  -- from what each passes and what one passes, one that passes both
  one_of_all : (t : K → Bool) (P : Type 0) → ((x : K) → p x ≡ true → t x ≡ true → P) → (ks : List K) → list_all p ks ≡ true → list_any t ks ≡ true → P
  one_of_all t P gives [] all one = absurd (true≢false (sym one))
  one_of_all t P gives (x ∷ xs) all one =
      elim (p x) as (λ a. p x ≡ a → (a && list_all p xs) ≡ true → (t x || list_any t xs) ≡ true → P) [
        | true ↦ λ px all. elim (t x) as (λ b. t x ≡ b → (b || list_any t xs) ≡ true → P) [ true ↦ λ tx _. gives x px tx | false ↦ λ _. one_of_all t P gives xs all ] refl
        | false ↦ λ _ all _. absurd (true≢false (sym all))
      ] refl all one

  all_of_each : (t : K → K → Bool) → ((x : K) → t x x ≡ true) → (ks : List K) → ((x : K) → list_any (t x) ks ≡ true → p x ≡ true) → list_all p ks ≡ true
  all_of_each t itself [] each = refl
  all_of_each t itself (x ∷ xs) each =
      ap (λ b. b && list_all p xs) (each x (ap (λ b. b || list_any (t x) xs) (itself x)))
      ∙ all_of_each t itself xs (λ y one. each y (ap (λ b. t y x || b) one ∙ or-true (t y x)))

marked : (x y : Option (Unit {0})) → is_some x ≡ is_some y → x ≡ y
marked None None e = refl
marked None (Some u) e = cc
marked (Some u) None e = cc
marked (Some u) (Some v) e = refl

module _ {K : Type 0} {R : K → K → Ordering} where
  -- what `contains` answers is what the list of members has
  pub contains-items : (s : SortedSet R) (q : K) → contains s q ≡ list_any (eq_by_cmp R q) (items s)
  unfolding contains
  contains-items s q = map.contains_key-keys s q

  -- a set of no members is the empty one
  pub empty_of_len : (s : SortedSet R) → len s ≡ 0 → s ≡ empty
  unfolding len empty
  empty_of_len s = map.empty_of_len s

  -- where the test gives tied members one answer
  pub contains-filter_alike : (p : K → Bool) (s : SortedSet R) (q : K) → ((x : K) → R q x ≡ Equal → p x ≡ p q) → contains (filter p s) q ≡ (contains s q && p q)
  unfolding contains filter
  contains-filter_alike p s q alike = ap is_some (map.get-retain_keys s p q alike) ∙ or_none (p q) (map.get s q)

-- the empty set has no members
pub contains-empty : {K : Type 0} (R : K → K → Ordering) (q : K) → contains (empty {R = R}) q ≡ false
unfolding contains empty
contains-empty R q = ap is_some (map.get-empty R q)

module _ {K : Type 0} {R : K → K → Ordering} (o : IsTotalOrder R) where
  -- an insert adds what ties with the new member
  pub contains-insert : (s : SortedSet R) (k q : K) → contains (insert s k) q ≡ (eq_by_cmp R q k || contains s q)
  unfolding contains insert
  contains-insert s k q = ap is_some (map.get-insert o s k tt q) ∙ some_or _ _

  -- the set of a list has the members of the list
  pub contains-from_list : (ks : List K) (q : K) → contains (from_list {R = R} ks) q ≡ list_any (eq_by_cmp R q) ks
  contains-from_list [] q = contains-empty R q
  contains-from_list (k ∷ ks) q = contains-insert _ k q ∙ ap (λ b. eq_by_cmp R q k || b) (contains-from_list ks q)

  list_any-append : (p : K → Bool) (xs ys : List K) → list_any p (xs ++ ys) ≡ (list_any p xs || list_any p ys)
  list_any-append p [] ys = refl
  list_any-append p (x ∷ xs) ys = elim (p x) as (λ b. (b || list_any p (xs ++ ys)) ≡ ((b || list_any p xs) || list_any p ys)) [ true ↦ refl | false ↦ list_any-append p xs ys ]

  -- a union has what either has
  pub contains-union : (s t : SortedSet R) (q : K) → contains (union s t) q ≡ (contains s q || contains t q)
  unfolding union
  contains-union s t q =
      contains-from_list (items s ++ items t) q ∙ list_any-append (eq_by_cmp R q) (items s) (items t)
      ∙ sym (λ i. contains-items s q i || contains-items t q i)

  -- two sets with the same members are equal
  pub same_set : IsAntisymmetric R → (s t : SortedSet R) → ((q : K) → contains s q ≡ contains t q) → s ≡ t
  unfolding contains
  same_set same s t is = map.same_map o same s t (λ q. marked _ _ (is q))

  -- a filter has the members that pass
  pub contains-filter : IsAntisymmetric R → (p : K → Bool) (s : SortedSet R) (q : K) → contains (filter p s) q ≡ (contains s q && p q)
  contains-filter same p s q = contains-filter_alike p s q (λ x tie. ap p (sym (same q x tie)))

  -- members that tie are there together
  pub contains_tied : (s : SortedSet R) (q x : K) → R q x ≡ Equal → contains s x ≡ contains s q
  unfolding contains
  contains_tied s q x t = ap is_some (map.get_tied o s q x t)

  -- a removal takes what ties with the member
  pub contains-remove : (s : SortedSet R) (k q : K) → contains (remove s k) q ≡ (not (eq_by_cmp R q k) && contains s q)
  unfolding contains remove
  contains-remove s k q = ap is_some (map.get-remove o s k q) ∙ none_or _ _

  -- an intersection has what both have
  pub contains-intersection : (s t : SortedSet R) (q : K) → contains (intersection s t) q ≡ (contains s q && contains t q)
  unfolding intersection
  contains-intersection s t q = contains-filter_alike (contains t) s q (contains_tied t q)

  -- a difference has what only the first has
  pub contains-difference : (s t : SortedSet R) (q : K) → contains (difference s t) q ≡ (contains s q && not (contains t q))
  unfolding difference
  contains-difference s t q = contains-filter_alike (λ k. not (contains t k)) s q (λ x e. ap not (contains_tied t q x e))

  -- a subset's members are in the set
  pub is_subset-contains : (s t : SortedSet R) → is_subset s t ≡ true → (q : K) → contains s q ≡ true → contains t q ≡ true
  unfolding is_subset
  is_subset-contains s t all q one =
      one_of_all (contains t) (eq_by_cmp R q) _ (λ x in_t tie. sym (contains_tied t q x ((Equal-is (R q x)).0 tie)) ∙ in_t) (items s) all (sym (contains-items s q) ∙ one)

  -- and where they all are, it is a subset
  pub contains-is_subset : (s t : SortedSet R) → ((q : K) → contains s q ≡ true → contains t q ≡ true) → is_subset s t ≡ true
  unfolding is_subset
  contains-is_subset s t each = all_of_each (contains t) (eq_by_cmp R) (λ x. ap is_eq (tied_itself o x)) (items s) (λ x one. each x (contains-items s x ∙ one))

  first_less : (k x : K) (xs : List K) → IsStrictlySortedBy R (k ∷ x ∷ xs) → R k x ≡ Less
  unfolding IsStrictlySortedBy
  first_less k x xs h = h.0.0

  put_first : (k : K) (es : List (K × Unit {0})) → IsStrictlySortedBy R (k ∷ map (λ e. e.0) es) → map (λ e. e.0) (map.Entries.put R k tt es) ≡ k ∷ map (λ e. e.0) es
  put_first k [] h = refl
  put_first k (e ∷ es) h = rw (first_less k e.0 (map (λ e. e.0) es) h) refl

  others : (k : K) (ks : List K) → IsStrictlySortedBy R (k ∷ ks) → IsStrictlySortedBy R ks
  unfolding IsStrictlySortedBy
  others k ks h = h.1

  -- a strictly rising list is the list of its set
  pub items-from_list : (ks : List K) → IsStrictlySortedBy R ks → items (from_list {R = R} ks) ≡ ks
  unfolding empty insert
  items-from_list [] h = ap (map (λ e. e.0)) (nil_from_length (map.entries {X = Unit {0}} {R = R} map.empty) (sym (map.len-entries map.empty) ∙ map.len-empty R (Unit {0})))
  items-from_list (k ∷ ks) h =
      let rest = items-from_list ks (others k ks h) in
      ap (map (λ e. e.0)) (map.entries-insert o (from_list ks) k tt)
      ∙ put_first k (map.entries (from_list ks)) (subst (λ l. IsStrictlySortedBy R (k ∷ l)) (sym rest) h)
      ∙ ap (λ l. k ∷ l) rest

  and_false : (a : Bool) → (a && false) ≡ false
  and_false true = refl
  and_false false = refl

  taken : (e a b p : Bool) → (e ≡ true → true ≡ p) → b ≡ (a && p) → (e || b) ≡ ((e || a) && p)
  taken true a b p h ih = h refl
  taken false a b p h ih = ih

  dropped : (e a b p : Bool) → (e ≡ true → false ≡ p) → b ≡ (a && p) → b ≡ ((e || a) && p)
  dropped true a b p h ih = ih ∙ ap (λ v. a && v) (sym (h refl)) ∙ and_false a ∙ h refl
  dropped false a b p h ih = ih

  tie_is : (r : Ordering) → is_eq r ≡ true → r ≡ Equal
  tie_is Less e = cc
  tie_is Equal e = refl
  tie_is Greater e = cc

  -- a member of the filtered list is a member that passes
  pub list_any-filter : IsAntisymmetric R → (p : K → Bool) (xs : List K) (q : K) → list_any (eq_by_cmp R q) (list_filter p xs) ≡ (list_any (eq_by_cmp R q) xs && p q)
  list_any-filter same p [] q = refl
  list_any-filter same p (x ∷ xs) q =
      elim (p x) as (λ b. p x ≡ b → list_any (eq_by_cmp R q) (cond b (x ∷ list_filter p xs) (list_filter p xs)) ≡ ((eq_by_cmp R q x || list_any (eq_by_cmp R q) xs) && p q)) [
        | true ↦ λ px. taken (eq_by_cmp R q x) _ _ (p q) (λ tie. sym px ∙ ap p (sym (same q x (tie_is (R q x) tie)))) (list_any-filter same p xs q)
        | false ↦ λ px. dropped (eq_by_cmp R q x) _ _ (p q) (λ tie. sym px ∙ ap p (sym (same q x (tie_is (R q x) tie)))) (list_any-filter same p xs q)
      ] refl

  -- the members of a set that pass, as a set
  pub from_list-filter : IsAntisymmetric R → (p : K → Bool) (s : SortedSet R) → from_list {R = R} (list_filter p (items s)) ≡ filter p s
  from_list-filter same p s = same_set same _ _ (λ q.
      contains-from_list (list_filter p (items s)) q ∙ list_any-filter same p (items s) q
      ∙ ap (λ b. b && p q) (sym (contains-items s q)) ∙ sym (contains-filter same p s q))

  -- a set is made of its members
  pub from_list-items : IsAntisymmetric R → (s : SortedSet R) → from_list {R = R} (items s) ≡ s
  from_list-items same s = same_set same _ _ (λ q. contains-from_list (items s) q ∙ sym (contains-items s q))

  -- the members of a set, in either spelling of the test
  pub contains_by : (xs : List K) (q : K) → contains (from_list {R = R} xs) q ≡ list_any (λ y. eq_by_cmp R y q) xs
  contains_by xs q = contains-from_list xs q ∙ ap (λ t. list_any t xs) (λ i y. (eq_by_cmp_equiv o).symm q y i)

  or_true : (e a : Bool) → (e ≡ true → a ≡ true) → (e || a) ≡ a
  or_true true a h = sym (h refl)
  or_true false a h = refl

  -- to insert what is there changes nothing
  pub insert_present : IsAntisymmetric R → (s : SortedSet R) (k : K) → contains s k ≡ true → insert s k ≡ s
  insert_present same s k there = same_set same _ _ (λ q. contains-insert s k q
      ∙ or_true (eq_by_cmp R q k) (contains s q) (λ tie. ap (contains s) (same q k (tie_is (R q k) tie)) ∙ there))

  or_last : (a e : Bool) → (a || (e || false)) ≡ (e || a)
  or_last true true = refl
  or_last true false = refl
  or_last false true = refl
  or_last false false = refl

  -- a list with one member more, in whatever order
  pub from_list_with : IsAntisymmetric R → (xs ys : List K) (k : K)
      → ((q : K) → list_any (eq_by_cmp R q) ys ≡ list_any (eq_by_cmp R q) (xs ++ k ∷ [])) → from_list {R = R} ys ≡ insert (from_list xs) k
  from_list_with same xs ys k alike = same_set same _ _ (λ q.
      contains-from_list ys q ∙ alike q ∙ list_any-append (eq_by_cmp R q) xs (k ∷ []) ∙ or_last (list_any (eq_by_cmp R q) xs) (eq_by_cmp R q k)
      ∙ ap (λ b. eq_by_cmp R q k || b) (sym (contains-from_list xs q)) ∙ sym (contains-insert (from_list xs) k q))

  -- the empty list rises
  pub nothing_rises : IsStrictlySortedBy R []
  unfolding IsStrictlySortedBy
  nothing_rises = tt

list_any-map : {J K : Type 0} (p : K → Bool) (f : J → K) (js : List J) → list_any p (map f js) ≡ list_any (λ j. p (f j)) js
list_any-map p f [] = refl
list_any-map p f (j ∷ js) = ap (λ b. p (f j) || b) (list_any-map p f js)

-- a member of the image of a set is made of one of its members
pub contains-image : {J K : Type 0} (Q : J → J → Ordering) {R : K → K → Ordering} (o : IsTotalOrder R) (f : J → K) (s : SortedSet Q) (q : K)
    → contains (image {R = R} f s) q ≡ list_any (λ j. eq_by_cmp R q (f j)) (items s)
contains-image Q {R = R} o f s q = contains-from_list o (map f (items s)) q ∙ list_any-map (eq_by_cmp R q) f (items s)

-- what sets of numbers and of bytes contain
pub ruleset members = (contains-empty, contains-insert, contains-remove, contains-from_list, contains-union, contains-intersection, contains-difference, nat_cmp_total, int_cmp_total, nat_list_cmp_total)
