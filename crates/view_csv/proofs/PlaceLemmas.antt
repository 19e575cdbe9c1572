-- Fields found by their place.
use Rattle.std.proofs.Common.{◌≡◌, ◌<◌, ◌≤◌, ◌+◌, ℕ, suc, zero, true, false, List, [], ◌∷◌, ◌++◌, length, map, refl, sym, ap, subst, ◌∙◌, arith, take, drop, get_or, ◌&&◌, ◌||◌, ◌==◌, Option, Some, None, option_map}
use Rattle.plain_values.proofs.Common.{list_all, list_any, option_and_then, and_from, nat_tests, length-map, map-append, take-append-drop, take_all, take_more, drop_more, list_all-append, and-false, first_fails, second_fails}
use Rattle.std.specs.FinMap as finmap
use Rattle.csv.specs.Records.{field_at}
use Rattle.plain_values.specs.declared.value.Kind.{Kind}
use Rattle.plain_values.specs.declared.value.Value.{Value}
use Rattle.lens_specs.specs.Common.{Columns, Name}
use Rattle.csv_specs.specs.Fields.{is_same, value_in}
use Rattle.csv_specs.specs.Sheets.{Record, all_there, field_under, is_header, value_under}
use Rattle.view_csv.specs.Places.{ArePlaces, is_name_at, value_at, values_at}

eqb_yes : (m n : ℕ) → m ≡ n → (m == n) ≡ true
eqb_yes m n e = grind (arith, nat_tests)

some_cons : {A : Type 0} {P : Type 0} (x : A) (o : Option (List A)) → option_map (λ ys. x ∷ ys) o ≡ Some [] → P
some_cons x None e = cc
some_cons x (Some ys) e = cc

some_rest : {A : Type 0} (x : A) (o : Option (List A)) (z : A) (ys : List A) → option_map (λ ys. x ∷ ys) o ≡ Some (z ∷ ys) → (x ≡ z) × (o ≡ Some ys)
some_rest x None z ys e = cc
some_rest x (Some zs) z ys e =
    let same : x ≡ z = cc in
    let rest : zs ≡ ys = cc in
    (same, ap Some rest)

-- ---- the place of a name

-- the first place with the name leads to the field under it
pub place_found : (name : Name) (header : Record) (place : ℕ) → list_any (is_same name) (take place header) ≡ false → is_name_at name (field_at header place) ≡ true
    → (fields : Record) → field_under name header fields ≡ field_at fields place
unfolding field_at
place_found name [] place before here fields = cc
place_found name (h ∷ header) zero before here [] = refl
place_found name (h ∷ header) zero before here (f ∷ fields) = rw here refl
place_found name (h ∷ header) (suc n) before here [] = refl
place_found name (h ∷ header) (suc n) before here (f ∷ fields) =
    rw (first_fails (is_same name h) _ before) (place_found name header n (second_fails (is_same name h) _ before) here fields)

-- and the name is there
pub name_there : (name : Name) (header : Record) (place : ℕ) → is_name_at name (field_at header place) ≡ true → list_any (is_same name) header ≡ true
unfolding field_at
name_there name [] place here = cc
name_there name (h ∷ header) zero here = rw here refl
name_there name (h ∷ header) (suc n) here = elim (is_same name h) as (λ b. (b || list_any (is_same name) header) ≡ true) [ true ↦ refl | false ↦ name_there name header n here ]

-- one more place without the name
pub none_yet : (name : Name) (header : Record) (place : ℕ) → list_any (is_same name) (take place header) ≡ false → is_name_at name (field_at header place) ≡ false
    → list_any (is_same name) (take (place + 1) header) ≡ false
unfolding field_at
none_yet name [] zero before here = refl
none_yet name [] (suc n) before here =
    let next : suc n + 1 ≡ suc (n + 1) = omega arith in
    rw next refl
none_yet name (h ∷ header) zero before here = rw here refl
none_yet name (h ∷ header) (suc n) before here =
    let next : suc n + 1 ≡ suc (n + 1) = omega arith in
    rw (next, first_fails (is_same name h) _ before) (none_yet name header n (second_fails (is_same name h) _ before) here)

-- ---- values that are all there

module _ {A : Type 0} where
  all_more : (xs : List (Option A)) (ys : List A) (y : A) → all_there xs ≡ Some ys → all_there (xs ++ (Some y ∷ [])) ≡ Some (ys ++ (y ∷ []))
  all_more [] ys y e =
      let none : ys ≡ [] = cc in
      rw none refl
  all_more (None ∷ xs) ys y e = cc
  all_more (Some x ∷ xs) [] y e = some_cons x (all_there xs) e
  all_more (Some x ∷ xs) (z ∷ ys) y e =
      let rest = some_rest x (all_there xs) z ys e in
      rw (all_more xs ys y rest.1, rest.0) refl

  all_none : (xs zs : List (Option A)) → all_there (xs ++ (None ∷ zs)) ≡ None
  all_none [] zs = refl
  all_none (None ∷ xs) zs = refl
  all_none (Some x ∷ xs) zs = rw (all_none xs zs) refl

  all_long : (xs : List (Option A)) (ys : List A) → all_there xs ≡ Some ys → length ys ≡ length xs
  all_long [] ys e =
      let none : ys ≡ [] = cc in
      rw none refl
  all_long (None ∷ xs) ys e = cc
  all_long (Some x ∷ xs) [] e = some_cons x (all_there xs) e
  all_long (Some x ∷ xs) (z ∷ ys) e =
      let rest = some_rest x (all_there xs) z ys e in
      omega (arith, all_long xs ys rest.1)

module _ (places : List (ℕ × Kind)) (i : ℕ) (d : ℕ × Kind) (fields : Record) where
  next_place : i < length places → map (value_at fields) (take (i + 1) places) ≡ map (value_at fields) (take i places) ++ (value_at fields (get_or places i d) ∷ [])
  next_place h = ap (map (value_at fields)) (take_more places i d h) ∙ map-append (value_at fields) (take i places) (get_or places i d ∷ [])

  -- one more value
  pub values_more : (values : List Value) (v : Value) → i < length places → values_at (take i places) fields ≡ Some values → Some v ≡ value_at fields (get_or places i d)
      → values_at (take (i + 1) places) fields ≡ Some (values ++ (v ∷ []))
  values_more values v h before here =
      ap all_there (next_place h ∙ ap (λ (o : Option Value). map (value_at fields) (take i places) ++ (o ∷ [])) (sym here)) ∙ all_more (map (value_at fields) (take i places)) values v before

  -- a value that is not there
  pub values_none : i < length places → None ≡ value_at fields (get_or places i d) → None ≡ values_at places fields
  values_none h here =
      let split : places ≡ take i places ++ (get_or places i d ∷ drop (i + 1) places) = sym (take-append-drop i places) ∙ ap (λ l. take i places ++ l) (drop_more places i d h) in
      sym (ap (λ l. values_at l fields) split
      ∙ ap all_there (map-append (value_at fields) (take i places) (get_or places i d ∷ drop (i + 1) places)
      ∙ ap (λ (o : Option Value). map (value_at fields) (take i places) ++ (o ∷ map (value_at fields) (drop (i + 1) places))) (sym here))
      ∙ all_none (map (value_at fields) (take i places)) (map (value_at fields) (drop (i + 1) places)))

-- ---- the places of the columns

module _ (header : Record) where
  -- one more column, found at a place
  pub column_found : (columns : List (Name × Kind)) (i : ℕ) (d : Name × Kind) (places : List (ℕ × Kind)) (place : ℕ) → i < length columns
      → ((fields : Record) → map (value_under header fields) (take i columns) ≡ map (value_at fields) places)
      → ((fields : Record) → field_under (get_or columns i d).0 header fields ≡ field_at fields place)
      → (fields : Record) → map (value_under header fields) (take (i + 1) columns) ≡ map (value_at fields) (places ++ ((place, (get_or columns i d).1) ∷ []))
  column_found columns i d places place h before here fields =
      ap (map (value_under header fields)) (take_more columns i d h) ∙ map-append (value_under header fields) (take i columns) (get_or columns i d ∷ [])
      ∙ (λ j. before fields j ++ (option_and_then (value_in (get_or columns i d).1) (here fields j) ∷ []))
      ∙ sym (map-append (value_at fields) places ((place, (get_or columns i d).1) ∷ []))

  -- whose name is among the fields
  pub name_found : (columns : List (Name × Kind)) (i : ℕ) (d : Name × Kind) → i < length columns → list_all (λ c. list_any (is_same c.0) header) (take i columns) ≡ true
      → list_any (is_same (get_or columns i d).0) header ≡ true → list_all (λ c. list_any (is_same c.0) header) (take (i + 1) columns) ≡ true
  name_found columns i d h before here =
      ap (list_all (λ c. list_any (is_same c.0) header)) (take_more columns i d h)
      ∙ list_all-append (λ c. list_any (is_same c.0) header) (take i columns) (get_or columns i d ∷ [])
      ∙ and_from _ _ before (and_from _ true here refl)

  all_names : (columns : List (Name × Kind)) → list_all (λ name. list_any (is_same name) header) (map (λ c. c.0) columns) ≡ list_all (λ c. list_any (is_same c.0) header) columns
  all_names [] = refl
  all_names (c ∷ columns) = ap (λ b. list_any (is_same c.0) header && b) (all_names columns)

  one_missing : (columns : List (Name × Kind)) (i : ℕ) (d : Name × Kind) → i < length columns → list_any (is_same (get_or columns i d).0) header ≡ false
      → list_all (λ c. list_any (is_same c.0) header) columns ≡ false
  one_missing [] i d h e = absurd (omega arith)
  one_missing (c ∷ columns) zero d h e = rw e refl
  one_missing (c ∷ columns) (suc i) d h e = rw (one_missing columns i d (omega (arith, h)) e) (and-false _)

  -- a header without the name of a column is none
  pub not_header : (columns : Columns) (i : ℕ) (d : Name × Kind) → i < length (finmap.entries columns) → false ≡ list_any (is_same (get_or (finmap.entries columns) i d).0) header → false ≡ is_header columns header
  not_header columns i d h e = sym (ap (λ b. (length header == length (finmap.keys columns)) && b) (all_names (finmap.entries columns) ∙ one_missing (finmap.entries columns) i d h (sym e)) ∙ and-false _)

  -- and one of the right length with all names is one
  pub header_right : (columns : Columns) → length header ≡ length (finmap.entries columns) → list_all (λ c. list_any (is_same c.0) header) (finmap.entries columns) ≡ true → true ≡ is_header columns header
  header_right columns long all = sym (and_from _ _ (eqb_yes _ _ (long ∙ sym (length-map (finmap.entries columns) (λ e. e.0)))) (all_names (finmap.entries columns) ∙ all))

  -- the places of all columns
  pub all_places : (columns : Columns) (places : List (ℕ × Kind)) → length places ≡ length (finmap.entries columns) → length header ≡ length (finmap.entries columns)
      → ((fields : Record) → map (value_under header fields) (finmap.entries columns) ≡ map (value_at fields) places) → ArePlaces columns header places
  all_places columns places many long found = record {
    values = λ fields. ap all_there (found fields);
    as_long = many ∙ sym long;
    as_many = many ∙ sym (length-map (finmap.entries columns) (λ e. e.0));
  }

module _ (header : Record) (columns : Columns) (cols : List (Name × Kind)) (same : cols ≡ finmap.entries columns) where
  -- not_header, of a column that a loop over the columns meets
  pub not_header_at : (i : ℕ) (item : Name × Kind) → i < length cols → item ≡ get_or cols i item → false ≡ list_any (is_same item.0) header → false ≡ is_header columns header
  not_header_at i item h is e =
      not_header header columns i item (subst (λ l. i < length l) same h) (e ∙ ap (λ (c : Name × Kind). list_any (is_same c.0) header) (is ∙ ap (λ l. get_or l i item) same))

  pub column_found_at : (i : ℕ) (item : Name × Kind) (places : List (ℕ × Kind)) (place : ℕ) → i < length cols → item ≡ get_or cols i item
      → ((fields : Record) → map (value_under header fields) (take i cols) ≡ map (value_at fields) places)
      → ((fields : Record) → field_under item.0 header fields ≡ field_at fields place)
      → (fields : Record) → map (value_under header fields) (take (i + 1) cols) ≡ map (value_at fields) (places ++ ((place, item.1) ∷ []))
  column_found_at i item places place h is before here fields =
      column_found header cols i item places place h before (λ f. ap (λ (c : Name × Kind). field_under c.0 header f) (sym is) ∙ here f) fields
      ∙ ap (λ (c : Name × Kind). map (value_at fields) (places ++ ((place, c.1) ∷ []))) (sym is)

  pub name_found_at : (i : ℕ) (item : Name × Kind) → i < length cols → item ≡ get_or cols i item → list_all (λ c. list_any (is_same c.0) header) (take i cols) ≡ true
      → list_any (is_same item.0) header ≡ true → list_all (λ c. list_any (is_same c.0) header) (take (i + 1) cols) ≡ true
  name_found_at i item h is before here = name_found header cols i item h before (ap (λ (c : Name × Kind). list_any (is_same c.0) header) (sym is) ∙ here)

  pub header_right_at : (i : ℕ) → length header ≡ length cols → length cols ≤ i → list_all (λ c. list_any (is_same c.0) header) (take i cols) ≡ true → true ≡ is_header columns header
  header_right_at i long past all =
      header_right header columns (long ∙ ap length same) (ap (list_all (λ c. list_any (is_same c.0) header)) (sym same ∙ sym (take_all i cols past)) ∙ all)

  pub all_places_at : (i : ℕ) (places : List (ℕ × Kind)) → length places ≡ i → i ≤ length cols → length cols ≤ i → length header ≡ length cols
      → ((fields : Record) → map (value_under header fields) (take i cols) ≡ map (value_at fields) places) → ArePlaces columns header places
  all_places_at i places many within past long found =
      let count : length places ≡ length cols = omega (arith, many, within, past) in
      all_places header columns places (count ∙ ap length same) (long ∙ ap length same)
      (λ fields. ap (map (value_under header fields)) (sym same ∙ sym (take_all i cols past)) ∙ found fields)
