-- Names with a value for each, and the map that they are.
use Rattle.std.proofs.Common.{◌≡◌, ℕ, ◌≤◌, ◌-◌, ◌+◌, List, [], ◌∷◌, ◌++◌, ◌<◌, length, ap, sym, subst, ◌∙◌, refl, Bool, true, false, cond, suc, arith, inl, inr, get_or, take, Bor, Option, Some, None, IfSome, ◌&&◌, ◌||◌, filter, is_some, option_copied, option_map, position}
use Rattle.std.proofs.Math.Dec.{ltb}
use Rattle.plain_values.proofs.Common.{and_parts, cases_Bool, ltb-false, ltb-true, filter_map, list_any, position_from, slice_get, zip, cons_option, IsStrictlySortedBy, eq_by_cmp, nat_list_cmp_total, position_from-zero, take_more, slice_get-get_or, Names, bytes_cmp, override, restrict, keys_of, values_of, entries-from_entries, exact, items_rise, is_tie, same_bool}
use Rattle.std.specs.FinMap as finmap
use Rattle.std.proofs.lemmas.List.Elements.{filter_map-append}
use Rattle.std.proofs.lemmas.Option.{slice_get_past}
use Rattle.std.proofs.lemmas.Slice.Zip.{firsts-zip, seconds-zip}
use Rattle.lens_values.specs.Paired.{AreAsMany, paired}
use Rattle.plain_values.specs.SortedSet as set
use Rattle.plain_values.proofs.Sets.{items-filter}

abbrev MapOf : Type 0 → Type 0
MapOf X = finmap.FinMap bytes_cmp X

-- pairs are their names with their values
pub zipped : {K X : Type 0} (es : List (K × X)) → zip (keys_of es) (values_of es) ≡ es
zipped [] = refl
zipped (e ∷ es) = ap (λ l. e ∷ l) (zipped es)

module _ {X : Type 0} where
  pub paired_rises : (C : Names) (xs : List X) → AreAsMany C xs → IsStrictlySortedBy bytes_cmp (keys_of (paired C xs))
  paired_rises C xs e = subst (IsStrictlySortedBy bytes_cmp) (sym (firsts-zip (set.items C) xs (sym e))) (items_rise nat_list_cmp_total exact C _ refl)

  entries-paired : (C : Names) (xs : List X) → AreAsMany C xs → finmap.entries (finmap.from_entries {R = bytes_cmp} (paired C xs)) ≡ paired C xs
  entries-paired C xs e = entries-from_entries bytes_cmp nat_list_cmp_total _ (paired_rises C xs e)

  -- the names are the keys of the map
  pub names_are : (C : Names) (xs : List X) (m : MapOf X) → AreAsMany C xs → finmap.from_entries (paired C xs) ≡ m → set.items C ≡ finmap.keys m
  names_are C xs m e is = sym (firsts-zip (set.items C) xs (sym e)) ∙ ap keys_of (sym (entries-paired C xs e)) ∙ ap finmap.keys is

  -- the values are those of its entries
  pub values_are : (C : Names) (xs : List X) (m : MapOf X) → AreAsMany C xs → finmap.from_entries (paired C xs) ≡ m → xs ≡ values_of (finmap.entries m)
  values_are C xs m e is = sym (seconds-zip (set.items C) xs (sym e)) ∙ ap values_of (sym (entries-paired C xs e)) ∙ ap (λ n. values_of (finmap.entries n)) is

  -- names and values of a map are its entries
  pub pairs_are : (m : MapOf X) (ns : List (List ℕ)) (vs : List X) → ns ≡ finmap.keys m → vs ≡ values_of (finmap.entries m) → zip ns vs ≡ finmap.entries m
  pairs_are m ns vs n v = (λ i. zip (n i) (v i)) ∙ zipped (finmap.entries m)

  pub lengths : {K : Type 0} (es : List (K × X)) → length (keys_of es) ≡ length (values_of es)
  lengths [] = refl
  lengths (e ∷ es) = ap suc (lengths es)

  -- there are as many of both
  pub as_many : (m : MapOf X) (ns : List (List ℕ)) (vs : List X) → ns ≡ finmap.keys m → vs ≡ values_of (finmap.entries m) → length ns ≡ length vs
  as_many m ns vs n v = ap length n ∙ lengths (finmap.entries m) ∙ sym (ap length v)

-- ---- the place of a name, and the value there

module _ {X : Type 0} where
  value_here : (v : X) (vs : List X) (n i : ℕ) → Some n ≡ Some i → (n ≤ i) × (slice_get (v ∷ vs) (i - n) ≡ Some v)
  value_here v vs n i e =
      let same : n ≡ i = cc in
      let first : i - n ≡ 0 = omega (arith, same) in
      (omega (arith, same), ap (slice_get (v ∷ vs)) first)

  value_later : (v : X) (vs : List X) (n i : ℕ) (o : Option X) → (n + 1 ≤ i) × (slice_get vs (i - (n + 1)) ≡ o) → (n ≤ i) × (slice_get (v ∷ vs) (i - n) ≡ o)
  value_later v vs n i o h =
      let past : i - n ≡ suc (i - (n + 1)) = omega (arith, h.0) in
      (omega (arith, h.0), ap (slice_get (v ∷ vs)) past ∙ h.1)

  at_place : (q : List ℕ) (es : List (List ℕ × X)) (n i : ℕ) → position_from (eq_by_cmp bytes_cmp q) n (keys_of es) ≡ Some i → (n ≤ i) × (slice_get (values_of es) (i - n) ≡ finmap.find bytes_cmp q es)
  at_place q [] n i e = cc
  at_place q (e ∷ es) n i is = elim (eq_by_cmp bytes_cmp q e.0) as
      (λ b. cond b (Some n) (position_from (eq_by_cmp bytes_cmp q) (n + 1) (keys_of es)) ≡ Some i → (n ≤ i) × (slice_get (values_of (e ∷ es)) (i - n) ≡ cond b (Some e.1) (finmap.find bytes_cmp q es))) [
        | true ↦ λ here. value_here e.1 (values_of es) n i here
        | false ↦ λ later. value_later e.1 (values_of es) n i _ (at_place q es (n + 1) i later)
      ] is

  nowhere : (q : List ℕ) (es : List (List ℕ × X)) (n : ℕ) → position_from (eq_by_cmp bytes_cmp q) n (keys_of es) ≡ None → None ≡ finmap.find bytes_cmp q es
  nowhere q [] n e = refl
  nowhere q (e ∷ es) n is = elim (eq_by_cmp bytes_cmp q e.0) as
      (λ b. cond b (Some n) (position_from (eq_by_cmp bytes_cmp q) (n + 1) (keys_of es)) ≡ None → None ≡ cond b (Some e.1) (finmap.find bytes_cmp q es)) [
        | true ↦ λ here. cc
        | false ↦ λ later. nowhere q es (n + 1) later
      ] is

  placed : (q : List ℕ) (m : MapOf X) (ns : List (List ℕ)) (o : Option ℕ) → ns ≡ finmap.keys m → o ≡ position (eq_by_cmp bytes_cmp q) ns → position_from (eq_by_cmp bytes_cmp q) 0 (finmap.keys m) ≡ o
  placed q m ns o n is = sym (is ∙ ap (position (eq_by_cmp bytes_cmp q)) n ∙ position_from-zero (eq_by_cmp bytes_cmp q) (finmap.keys m))

  -- at the place of the name stands its value
  pub value_at : (q : List ℕ) (m : MapOf X) (ns : List (List ℕ)) (vs : List X) (i : ℕ) → ns ≡ finmap.keys m → vs ≡ values_of (finmap.entries m) → Some i ≡ position (eq_by_cmp bytes_cmp q) ns → slice_get vs i ≡ finmap.get m q
  value_at q m ns vs i n v is =
      let none : i ≡ i - 0 = omega arith in
      (λ j. slice_get (v j) (none j)) ∙ (at_place q (finmap.entries m) 0 i (placed q m ns (Some i) n is)).1 ∙ sym (finmap.get-entries m q)

  -- and there is none where the name has no place
  pub no_value : (q : List ℕ) (m : MapOf X) (ns : List (List ℕ)) → ns ≡ finmap.keys m → None ≡ position (eq_by_cmp bytes_cmp q) ns → None ≡ finmap.get m q
  no_value q m ns n is = nowhere q (finmap.entries m) 0 (placed q m ns None n is) ∙ sym (finmap.get-entries m q)

-- ---- reading a list

module _ {X : Type 0} where
  -- what is read at a place, behind a reference or not
  pub copied : (r : Option (Bor X)) (xs : List X) (i : ℕ) → is_some r ≡ ltb i (length xs) → IfSome r (λ x. x.now ≡ get_or xs i x.now) → option_copied r ≡ slice_get xs i
  copied None xs i e h = sym (slice_get_past xs i (ltb-false i (length xs) (sym e)))
  copied (Some x) xs i e h = sym (slice_get-get_or xs i x.now (ltb-true i (length xs) (sym e)) ∙ ap Some (sym h))

module _ {X Y : Type 0} (f : X → Option Y) where
  -- one more of what is found along a list
  pub one_more : (xs : List X) (i : ℕ) (x : X) (found all : List Y) (o : Option Y) → i < length xs → x ≡ get_or xs i x → f x ≡ o → found ≡ filter_map f (take i xs)
      → all ≡ found ++ cons_option o [] → all ≡ filter_map f (take (i + 1) xs)
  one_more xs i x found all o l at is so_far made =
      made ∙ (λ j. so_far j ++ cons_option (sym is j) []) ∙ sym (filter_map-append f (take i xs) (x ∷ []))
      ∙ ap (λ y. filter_map f (take i xs ++ y ∷ [])) at ∙ ap (filter_map f) (sym (take_more xs i x l))

-- ---- what is found under some names

module _ {X : Type 0} (f : List ℕ → Option X) where
  abbrev has : List ℕ → Bool
  has c = is_some (f c)

  abbrev pairs_found : List (List ℕ) → List (List ℕ × X)
  pairs_found = filter_map (λ c. option_map (λ v. (c, v)) (f c))

  zip_one : (c : List ℕ) (o : Option X) (ns : List (List ℕ)) (vs : List X) → zip (cond (is_some o) (c ∷ ns) ns) (cons_option o vs) ≡ cons_option (option_map (λ v. (c, v)) o) (zip ns vs)
  zip_one c None ns vs = refl
  zip_one c (Some v) ns vs = refl

  zip_found : (cs : List (List ℕ)) → zip (filter has cs) (filter_map f cs) ≡ pairs_found cs
  zip_found [] = refl
  zip_found (c ∷ cs) = zip_one c (f c) (filter has cs) (filter_map f cs) ∙ ap (cons_option (option_map (λ v. (c, v)) (f c))) (zip_found cs)

  as_many_one : (c : List ℕ) (o : Option X) (ns : List (List ℕ)) (vs : List X) → length ns ≡ length vs → length (cond (is_some o) (c ∷ ns) ns) ≡ length (cons_option o vs)
  as_many_one c None ns vs e = e
  as_many_one c (Some v) ns vs e = ap suc e

  as_many_found : (cs : List (List ℕ)) → length (filter has cs) ≡ length (filter_map f cs)
  as_many_found [] = refl
  as_many_found (c ∷ cs) = as_many_one c (f c) (filter has cs) (filter_map f cs) (as_many_found cs)

  no_more_one : (o : Option X) (vs : List X) (n : ℕ) → length vs ≤ n → length (cons_option o vs) ≤ suc n
  no_more_one None vs n h = omega (arith, h)
  no_more_one (Some v) vs n h = omega (arith, h)

  no_more : (cs : List (List ℕ)) → length (filter_map f cs) ≤ length cs
  no_more [] = omega arith
  no_more (c ∷ cs) = no_more_one (f c) (filter_map f cs) (length cs) (no_more cs)

  all_found_one : (c : List ℕ) (cs ns : List (List ℕ)) (o : Option X) (vs : List X) → length vs ≤ length cs → (length vs ≡ length cs → ns ≡ cs) → length (cons_option o vs) ≡ suc (length cs) → cond (is_some o) (c ∷ ns) ns ≡ c ∷ cs
  all_found_one c cs ns None vs h rest e = absurd (omega (arith, h, e))
  all_found_one c cs ns (Some v) vs h rest e = ap (λ l. c ∷ l) (rest (omega (arith, e)))

  all_found : (cs : List (List ℕ)) → length (filter_map f cs) ≡ length cs → filter has cs ≡ cs
  all_found [] e = refl
  all_found (c ∷ cs) e = all_found_one c cs (filter has cs) (f c) (filter_map f cs) (no_more cs) (all_found cs) e

  head : (q c : List ℕ) (es : List (List ℕ × X)) (o : Option X) (t : Bool) → eq_by_cmp bytes_cmp q c ≡ t
      → finmap.find bytes_cmp q (cons_option (option_map (λ v. (c, v)) o) es) ≡ cond t (cond (is_some o) o (finmap.find bytes_cmp q es)) (finmap.find bytes_cmp q es)
  head q c es None true e = refl
  head q c es None false e = refl
  head q c es (Some v) t e = elim t as (λ t. eq_by_cmp bytes_cmp q c ≡ t → cond (eq_by_cmp bytes_cmp q c) (Some v) (finmap.find bytes_cmp q es) ≡ cond t (Some v) (finmap.find bytes_cmp q es)) [
    | true ↦ λ e. ap (λ b. cond b (Some v) (finmap.find bytes_cmp q es)) e
    | false ↦ λ e. ap (λ b. cond b (Some v) (finmap.find bytes_cmp q es)) e
  ] e

  chosen : (o : Option X) (b : Bool) → cond (is_some o) o (cond b o None) ≡ o
  chosen None true = refl
  chosen None false = refl
  chosen (Some v) b = refl

  find_found : (q : List ℕ) (cs : List (List ℕ)) → finmap.find bytes_cmp q (pairs_found cs) ≡ cond (list_any (eq_by_cmp bytes_cmp q) cs) (f q) None
  find_found q [] = refl
  find_found q (c ∷ cs) = elim (cases_Bool (eq_by_cmp bytes_cmp q c)) [
    | inl t ↦
        let key : q ≡ c = exact q c (is_tie (bytes_cmp q c) t) in
        head q c (pairs_found cs) (f c) true t
        ∙ (λ i. cond (is_some (f (sym key i))) (f (sym key i)) (find_found q cs i))
        ∙ chosen (f q) (list_any (eq_by_cmp bytes_cmp q) cs)
        ∙ ap (λ b. cond (b || list_any (eq_by_cmp bytes_cmp q) cs) (f q) None) (sym t)
    | inr t ↦
        head q c (pairs_found cs) (f c) false t ∙ find_found q cs
        ∙ ap (λ b. cond (b || list_any (eq_by_cmp bytes_cmp q) cs) (f q) None) (sym t)
  ]

filter_same : (p q : List ℕ → Bool) → ((c : List ℕ) → p c ≡ q c) → (cs : List (List ℕ)) → filter p cs ≡ filter q cs
filter_same p q e [] = refl
filter_same p q e (c ∷ cs) = λ i. cond (e c i) (c ∷ filter_same p q e cs i) (filter_same p q e cs i)

and_same : (b : Bool) → (b && b) ≡ b
and_same true = refl
and_same false = refl

below_is : (a b : Bool) → (a ≡ true → b ≡ true) → b ≡ (a || b)
below_is true b h = h refl
below_is false b h = refl

module _ {X : Type 0} where
  -- the names that the map has among those of C, with their values, are its part at C
  part_found : (C : Names) (m : MapOf X) → finmap.from_entries (zip (filter (λ c. is_some (finmap.get m c)) (set.items C)) (filter_map (finmap.get m) (set.items C))) ≡ restrict C m
  part_found C m = finmap.same_map nat_list_cmp_total exact _ _ (λ q.
      finmap.get-from_entries nat_list_cmp_total _ q ∙ ap (finmap.find bytes_cmp q) (zip_found (finmap.get m) (set.items C))
      ∙ find_found (finmap.get m) q (set.items C) ∙ ap (λ b. cond b (finmap.get m q) None) (sym (set.contains-items C q))
      ∙ sym (finmap.get-retain_keys m (set.contains C) q (λ x tie. ap (set.contains C) (sym (exact q x tie)))))

  -- where each of the names has a value
  pub whole_part : (C : Names) (m : MapOf X) (vs : List X) → vs ≡ filter_map (finmap.get m) (set.items C) → length vs ≡ length (set.items C) → finmap.from_entries (paired C vs) ≡ restrict C m
  whole_part C m vs is many =
      let all = all_found (finmap.get m) (set.items C) (sym (ap length is) ∙ many) in
      (λ i. finmap.from_entries (zip (sym all i) (is i))) ∙ part_found C m

  -- the names of D are those of the map
  abbrev pub Knows : Names → MapOf X → Type 0
  Knows D m = (c : List ℕ) → set.contains D c ≡ is_some (finmap.get m c)

  pub own_names : (D : Names) (m : MapOf X) → set.items D ≡ finmap.keys m → Knows D m
  own_names D m is c = set.contains-items D c ∙ ap (list_any (eq_by_cmp bytes_cmp c)) is ∙ sym (finmap.contains_key-keys m c)

  shared : (C D : Names) (m : MapOf X) → Knows D m → set.items (set.intersection C D) ≡ filter (λ c. is_some (finmap.get m c)) (set.items C)
  unfolding set.intersection
  shared C D m known = items-filter nat_list_cmp_total exact (set.contains D) C ∙ filter_same (set.contains D) (λ c. is_some (finmap.get m c)) known (set.items C)

  -- where some of them have none
  pub some_part : (C D : Names) (m : MapOf X) (vs : List X) → Knows D m → vs ≡ filter_map (finmap.get m) (set.items C) → finmap.from_entries (paired (set.intersection C D) vs) ≡ restrict C m
  some_part C D m vs known is = (λ i. finmap.from_entries (zip (shared C D m known i) (is i))) ∙ part_found C m

  pub some_many : (C D : Names) (m : MapOf X) (vs : List X) → Knows D m → vs ≡ filter_map (finmap.get m) (set.items C) → AreAsMany (set.intersection C D) vs
  some_many C D m vs known is = ap length (shared C D m known) ∙ as_many_found (finmap.get m) (set.items C) ∙ ap length (sym is)

  all_known : (C : Names) (m : MapOf X) → Knows C m → filter (λ c. is_some (finmap.get m c)) (set.items C) ≡ set.items C
  all_known C m known =
      let own : set.filter (set.contains C) C ≡ C = set.same_set nat_list_cmp_total exact _ _ (λ c. set.contains-filter nat_list_cmp_total exact (set.contains C) C c ∙ and_same (set.contains C c)) in
      filter_same (λ c. is_some (finmap.get m c)) (set.contains C) (λ c. sym (known c)) (set.items C)
      ∙ sym (items-filter nat_list_cmp_total exact (set.contains C) C) ∙ ap set.items own

  -- the names of a map, with their values, are the map
  pub all_many : (C : Names) (m : MapOf X) (vs : List X) → Knows C m → vs ≡ filter_map (finmap.get m) (set.items C) → AreAsMany C vs
  all_many C m vs known is = ap length (sym (all_known C m known)) ∙ as_many_found (finmap.get m) (set.items C) ∙ ap length (sym is)

  there : (o : Option X) → cond (is_some o) o None ≡ o
  there None = refl
  there (Some v) = refl

  pub all_made : (C : Names) (m : MapOf X) (vs : List X) → Knows C m → vs ≡ filter_map (finmap.get m) (set.items C) → finmap.from_entries (paired C vs) ≡ m
  all_made C m vs known is =
      (λ i. finmap.from_entries (zip (sym (all_known C m known) i) (is i))) ∙ part_found C m
      ∙ finmap.same_map nat_list_cmp_total exact _ _ (λ q.
      finmap.get-retain_keys m (set.contains C) q (λ x tie. ap (set.contains C) (sym (exact q x tie)))
      ∙ ap (λ b. cond b (finmap.get m q) None) (known q) ∙ there (finmap.get m q))

within_either : (a b l : Bool) → (a ≡ true → l ≡ true) → (b ≡ true → l ≡ true) → (a || b) ≡ true → l ≡ true
within_either true b l f g e = f refl
within_either false b l f g e = g e

-- ---- two maps, one over the other

module _ {X : Type 0} where
  found_first : (q : List ℕ) (es fs : List (List ℕ × X)) → finmap.find bytes_cmp q (es ++ fs) ≡ cond (is_some (finmap.find bytes_cmp q es)) (finmap.find bytes_cmp q es) (finmap.find bytes_cmp q fs)
  found_first q [] fs = refl
  found_first q (e ∷ es) fs = elim (eq_by_cmp bytes_cmp q e.0) as
      (λ b. cond b (Some e.1) (finmap.find bytes_cmp q (es ++ fs)) ≡ cond (is_some (cond b (Some e.1) (finmap.find bytes_cmp q es))) (cond b (Some e.1) (finmap.find bytes_cmp q es)) (finmap.find bytes_cmp q fs)) [
        | true ↦ refl
        | false ↦ found_first q es fs
      ]

  -- the value in the map above, or else in the one below
  pub get-override : (m n : MapOf X) (q : List ℕ) → finmap.get (override m n) q ≡ cond (is_some (finmap.get m q)) (finmap.get m q) (finmap.get n q)
  get-override m n q =
      finmap.get-from_entries nat_list_cmp_total (finmap.entries m ++ finmap.entries n) q ∙ found_first q (finmap.entries m) (finmap.entries n)
      ∙ (λ i. cond (is_some (sym (finmap.get-entries m q) i)) (sym (finmap.get-entries m q) i) (sym (finmap.get-entries n q) i))

  either : (o p : Option X) → (is_some o || is_some p) ≡ is_some (cond (is_some o) o p)
  either None p = refl
  either (Some v) p = refl

  -- the names of both
  pub union_knows : (C D : Names) (m n : MapOf X) → Knows C m → Knows D n → Knows (set.union C D) (override m n)
  union_knows C D m n c d q =
      set.contains-union nat_list_cmp_total C D q ∙ (λ i. c q i || d q i) ∙ either (finmap.get m q) (finmap.get n q) ∙ ap is_some (sym (get-override m n q))

  -- those of the one below, where it has them all
  pub below_knows : (C D : Names) (m n : MapOf X) → Knows C m → Knows D n → set.is_subset C D ≡ true → Knows D (override m n)
  below_knows C D m n c d within q =
      below_is (set.contains C q) (set.contains D q) (set.is_subset-contains nat_list_cmp_total C D within q)
      ∙ sym (set.contains-union nat_list_cmp_total C D q) ∙ union_knows C D m n c d q

  -- names that hold those of both, and each have a value, are those of both
  pub full_knows : (C D L : Names) (m n : MapOf X) (vs : List X) → Knows C m → Knows D n → vs ≡ filter_map (finmap.get (override m n)) (set.items L) → length vs ≡ length (set.items L)
      → set.is_subset C L ≡ true → set.is_subset D L ≡ true → Knows L (override m n)
  full_knows C D L m n vs c d is many above below q =
      let all = all_found (finmap.get (override m n)) (set.items L) (sym (ap length is) ∙ many) in
      let some : set.contains L q ≡ (set.contains L q && is_some (finmap.get (override m n) q)) =
      set.contains-items L q ∙ ap (list_any (eq_by_cmp bytes_cmp q)) (sym all)
      ∙ set.list_any-filter nat_list_cmp_total exact (λ c. is_some (finmap.get (override m n) c)) (set.items L) q
      ∙ ap (λ b. b && is_some (finmap.get (override m n) q)) (sym (set.contains-items L q)) in
      let both : is_some (finmap.get (override m n) q) ≡ (set.contains C q || set.contains D q) =
      sym (union_knows C D m n c d q) ∙ set.contains-union nat_list_cmp_total C D q in
      same_bool _ _
      (λ t. (and_parts _ _ (sym some ∙ t)).1)
      (λ t. within_either (set.contains C q) (set.contains D q) (set.contains L q) (set.is_subset-contains nat_list_cmp_total C L above q) (set.is_subset-contains nat_list_cmp_total D L below q) (sym both ∙ t))
