-- Parts of pairs of rows that are made by places.
use Rattle.std.proofs.Common.{◌≡◌, ◌∙◌, ◌∷◌, ◌++◌, ◌<◌, Bool, List, [], ap, cond, get_or, length, map as map_list, refl, subst, sym, take, true, false, ◌==◌, ◌||◌, ◌&&◌, ℕ, ◌+◌, None, Option, Some, flat_map, is_some, option_map}
use Rattle.plain_values.proofs.Common.{IsTotalOrder, eq_by_cmp_equiv, on_total, then_total, tied_itself, IsAntisymmetric, AllByRecursion, Contains, cons_option, filter_map, list_all, list_any, position_from, slice_get, eq_by_cmp, is_eq, eqb-true, position_from-zero, get_or_default, Contains-get_or, list_any-from_Contains, Names, bytes_cmp, override, restrict, Row, agree, row_cmp, values_of, same_value, from_map, is_tie, then_equal}
use Rattle.std.specs.FinMap as map
use Rattle.plain_values.specs.SortedSet as set
use Rattle.plain_values.specs.declared.value.Value.{Value}
use Rattle.lens_values.specs.Paired.{paired}
use Rattle.lens_values.proofs.Cells.{get-override, no_value, one_more, own_names, value_at as value_at_place, whole_part}
use Rattle.lens_specs.specs.Common.{Rows}
use Rattle.fd_laws.proofs.Common.{row_exact, row_itself, row_total, tied_row}
use Rattle.row_sets.specs.Joins.{entry_cmp, with_key}
use Rattle.row_sets.proofs.Pairs.{all_members}
use Rattle.view_reading.specs.Pasting.{AreNamed, HasNames, IsIndex, either_place, near_in, own_place, part_at, parts_by, place_in, value_at}
use Rattle.view_reading.specs.declared.pasting.Place.{Place}
use Rattle.view_reading.specs.declared.pasting.Place.TheVariants.{Left}

-- ---- what is found at places that are found

abbrev found_at : {P Y : Type 0} → (P → Option Y) → Option P → Option Y
found_at h None = None
found_at h (Some p) = h p

next_found : {P Y : Type 0} (h : P → Option Y) (o : Option P) (y : Option Y) (ps : List P) (ys : List Y) → found_at h o ≡ y → filter_map h ps ≡ ys → filter_map h (cons_option o ps) ≡ cons_option y ys
next_found h None y ps ys is rest = rest ∙ ap (λ z. cons_option z ys) is
next_found h (Some p) y ps ys is rest = λ i. cons_option (is i) (rest i)

found_twice : {X P Y : Type 0} (g : X → Option P) (h : P → Option Y) (f : X → Option Y) → ((x : X) → found_at h (g x) ≡ f x) → (xs : List X) → filter_map h (filter_map g xs) ≡ filter_map f xs
found_twice g h f is [] = refl
found_twice g h f is (x ∷ xs) = next_found h (g x) (f x) (filter_map g xs) (filter_map f xs) (is x) (found_twice g h f is xs)

abbrev all_at : {P : Type 0} → (P → Bool) → Option P → Bool
all_at q None = true
all_at q (Some p) = q p

next_all : {P : Type 0} (q : P → Bool) (o : Option P) (b : Bool) (ps : List P) (bs : Bool) → all_at q o ≡ b → list_all q ps ≡ bs → list_all q (cons_option o ps) ≡ (b && bs)
next_all q None b ps bs is rest = rest ∙ ap (λ z. z && bs) is
next_all q (Some p) b ps bs is rest = λ i. is i && rest i

all_twice : {X P : Type 0} (g : X → Option P) (q : P → Bool) (f : X → Bool) → ((x : X) → all_at q (g x) ≡ f x) → (xs : List X) → list_all q (filter_map g xs) ≡ list_all f xs
all_twice g q f is [] = refl
all_twice g q f is (x ∷ xs) = next_all q (g x) (f x) (filter_map g xs) (list_all f xs) (is x) (all_twice g q f is xs)

-- one more of what is found along a list
pub one_found : {X Y : Type 0} (f : X → Option Y) (xs : List X) (i : ℕ) (d : X) (found all : List Y) (o : Option Y) → i < length xs → o ≡ f (get_or xs i d) → found ≡ filter_map f (take i xs)
    → all ≡ found ++ cons_option o [] → all ≡ filter_map f (take (i + 1) xs)
one_found f xs i d found all o lt is so_far made =
    one_more f xs i (get_or xs i d) found all o lt (get_or_default xs i d (get_or xs i d) lt) (sym is) so_far made

-- ---- the value under a name is that at its place

placed : {X : Type 0} (test : X → Bool) (n i : ℕ) (xs : List X) → position_from test n xs ≡ Some i → list_any test xs ≡ true
placed test n i [] is = cc
placed test n i (x ∷ xs) is = elim (test x) as (λ b. cond b (Some n) (position_from test (n + 1) xs) ≡ Some i → (b || list_any test xs) ≡ true) [
  | true ↦ λ _. refl
  | false ↦ λ later. placed test (n + 1) i xs later
] is

module _ (C : Names) (r : Row) (own : HasNames C r) where
  there : (c : List ℕ) (i : ℕ) → own_place C c ≡ Some i → is_some (map.get r c) ≡ true
  there c i is =
      sym (own_names C r own c) ∙ set.contains-items C c
      ∙ placed (eq_by_cmp bytes_cmp c) 0 i (set.items C) (sym (position_from-zero (eq_by_cmp bytes_cmp c) (set.items C)) ∙ is)

  pub value_here : (c : List ℕ) (o : Option ℕ) → own_place C c ≡ o → found_at (slice_get (values_of (map.entries r))) o ≡ map.get r c
  value_here c None is = no_value c r (set.items C) own (sym is)
  value_here c (Some i) is = value_at_place c r (set.items C) (values_of (map.entries r)) i own refl (sym is)

-- rows of one side agree if they have the same values at the places
pub same_at_is : (C U : Names) (m n : Row) → HasNames U m → HasNames U n → (ps : List ℕ) → ps ≡ filter_map (own_place U) (set.items C)
    → list_all (λ p. same_value (slice_get (values_of (map.entries m)) p) (slice_get (values_of (map.entries n)) p)) ps ≡ agree C m n
unfolding agree
same_at_is C U m n mine other ps is =
    ap (list_all test) is ∙ all_twice (own_place U) test (λ c. same_value (map.get m c) (map.get n c)) (λ c. each c (own_place U c) refl) (set.items C)
  where
    test : ℕ → Bool
    test p = same_value (slice_get (values_of (map.entries m)) p) (slice_get (values_of (map.entries n)) p)

    each : (c : List ℕ) (o : Option ℕ) → own_place U c ≡ o → all_at test o ≡ same_value (map.get m c) (map.get n c)
    each c None at = λ i. same_value (value_here U m mine c None at i) (value_here U n other c None at i)
    each c (Some p) at = λ i. same_value (value_here U m mine c (Some p) at i) (value_here U n other c (Some p) at i)

-- ---- a part of a pair

module _ (U V : Names) (m n : Row) (left : HasNames U m) (right : HasNames V n) where
  abbrev found : Place → Option Value
  found = value_at (values_of (map.entries m)) (values_of (map.entries n))

  on_left : (o : Option ℕ) → found_at found (option_map Left o) ≡ found_at (slice_get (values_of (map.entries m))) o
  on_left None = refl
  on_left (Some i) = refl

  pair_value : (c : List ℕ) (o p : Option ℕ) → own_place U c ≡ o → own_place V c ≡ p → found_at found (either_place o p) ≡ map.get (override n m) c
  pair_value c o None own its =
      on_left o ∙ value_here U m left c o own
      ∙ ap (λ z. cond (is_some z) z (map.get m c)) (value_here V n right c None its) ∙ sym (get-override n m c)
  pair_value c o (Some i) own its =
      value_here V n right c (Some i) its
      ∙ ap (λ b. cond b (map.get n c) (map.get m c)) (sym (there V n right c i its)) ∙ sym (get-override n m c)

  values_found : (K : Names) (ps : List Place) → ps ≡ filter_map (place_in U V) (set.items K) → filter_map found ps ≡ filter_map (map.get (override n m)) (set.items K)
  values_found K ps is = ap (filter_map found) is ∙ found_twice (place_in U V) found (map.get (override n m)) (λ c. pair_value c (own_place U c) (own_place V c) refl refl) (set.items K)

  -- what is made at the places of columns is the part in them
  pub part_at_is : (K : Names) (ps : List Place) → ps ≡ filter_map (place_in U V) (set.items K) → part_at K ps m n ≡ restrict K (override n m)
  part_at_is K ps is = by (length (filter_map found ps) == length (set.items K)) refl
    where
      by : (b : Bool) → (length (filter_map found ps) == length (set.items K)) ≡ b → cond b (map.from_entries (paired K (filter_map found ps))) (restrict K (override n m)) ≡ restrict K (override n m)
      by true all = whole_part K (override n m) (filter_map found ps) (values_found K ps is) (eqb-true (length (filter_map found ps)) (length (set.items K)) all)
      by false some = refl

-- ---- the pairs of two sets

-- a row of a list of the set's rows has their columns
pub named_at : (C : Names) (M : Rows) (rows : List Row) (i : ℕ) (row : Row) → AreNamed C M → rows ≡ set.items M → i < length rows → row ≡ get_or rows i row → HasNames C row
named_at C M rows i row named are lt is =
    named row (set.contains-items M row ∙ list_any-from_Contains (eq_by_cmp_equiv row_total) row (set.items M) (subst (λ l. Contains l row) are (subst (Contains rows) (sym is) (Contains-get_or rows i row lt))))

entry_total : IsTotalOrder entry_cmp
entry_total = then_total (on_total (λ e. e.0) row_total) (on_total (λ e. e.1) row_total)

entry_exact : IsAntisymmetric entry_cmp
entry_exact e f tie =
    let both = then_equal (row_cmp e.0 f.0) (row_cmp e.1 f.1) tie in
    λ i. (row_exact e.0 f.0 both.0 i, row_exact e.1 f.1 both.1 i)

tied_entry : (e f : Row × Row) → eq_by_cmp entry_cmp e f ≡ true → e ≡ f
tied_entry e f tie = entry_exact e f (is_tie (entry_cmp e f) tie)

-- the rows of an index have their columns
pub entries_named : (C V : Names) (N : Rows) (entries : List (Row × Row)) → AreNamed V N → IsIndex C (set.items N) entries → AllByRecursion (λ e. HasNames V e.1) entries
entries_named C V N entries named index = all_members entry_total entry_exact (λ e. HasNames V e.1) entries (λ e there.
    let w = from_map (eq_by_cmp row_cmp) tied_row row_itself (eq_by_cmp entry_cmp) tied_entry (λ f. ap is_eq (tied_itself entry_total f)) (with_key C) (set.items N) e (sym (index.1 e) ∙ there) in
    subst (HasNames V) (ap (λ f. f.1) (sym w.2)) (named w.0 (set.contains-items N w.0 ∙ w.1)))

module _ (U V K C : Names) (ps : List Place) (places : ps ≡ filter_map (place_in U V) (set.items K)) where
  made_near : (m : Row) → HasNames U m → (entries : List (Row × Row)) → AllByRecursion (λ e. HasNames V e.1) entries
      → map_list (λ e. part_at K ps m e.1) (near_in entries C m) ≡ map_list (λ e. restrict K (override e.1 m)) (near_in entries C m)
  made_near m own [] all = refl
  made_near m own (e ∷ es) all = elim (is_eq (row_cmp e.0 (restrict C m))) as (λ b.
      map_list (λ f. part_at K ps m f.1) (cond b (e ∷ near_in es C m) (near_in es C m)) ≡ map_list (λ f. restrict K (override f.1 m)) (cond b (e ∷ near_in es C m) (near_in es C m))) [
        | true ↦ λ i. part_at_is U V m e.1 own all.0 K ps places i ∷ made_near m own es all.1 i
        | false ↦ made_near m own es all.1
      ]

  -- what an index gives by places are the parts of the pairs
  pub parts_by_is : (entries : List (Row × Row)) → AllByRecursion (λ e. HasNames V e.1) entries → (rows : List Row) → AllByRecursion (HasNames U) rows
      → parts_by K ps C entries rows ≡ flat_map (λ m. map_list (λ e. restrict K (override e.1 m)) (near_in entries C m)) rows
  parts_by_is entries all [] own = refl
  parts_by_is entries all (m ∷ rows) own = λ i. made_near m own.0 entries all i ++ parts_by_is entries all rows own.1 i

-- each of the set's rows has their columns
pub items_named : (C : Names) (M : Rows) → AreNamed C M → AllByRecursion (HasNames C) (set.items M)
items_named C M named = all_members row_total row_exact (HasNames C) (set.items M) (λ r there. named r (set.contains-items M r ∙ there))
