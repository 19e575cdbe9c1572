-- Rows that are filled in, and the edit that they make.
use Rattle.std.proofs.Common.{◌≡◌, ℕ, length, List, [], ◌∷◌, is_some, map, refl, sym, ap, ◌∙◌, subst, Bool, true, false, cond, Option, Some, None, inl, inr, ◌<◌, ◌≤◌, ◌+◌, ◌++◌, get_or, take, filter, slice_get, unwrap_or}
use Rattle.plain_values.proofs.Common.{find, eq_by_cmp, cases_Bool, true≢false, map_more, take_all, bytes_cmp, Row}
use Rattle.std.specs.FinMap as finmap
use Rattle.plain_values.specs.SortedSet as set
use Rattle.plain_values.specs.declared.value.Kind.{Kind}
use Rattle.plain_values.specs.declared.value.Value.{Value}
use Rattle.lens_specs.specs.Common.{Columns, Fits, fits_at, names, without_column, Applies, Delta, diff, Meets, edge, Name, Names, Within, one, drop_get, drop_put, Rows, first_row, has, image, along, revise, revise_row, agree, at, cut, with_at, moved}
use Rattle.lens_laws.proofs.Common.{drop_delta, find_by, CanDrop, IsIn, Shape, drop_shape, from_new_view, drop_delta_is}
use Rattle.fd_laws.proofs.Common.{IsTree, fits_names, names-get, names-without, from_rest, name_itself, one_is, one_itself, from_image, from_project, same_rel, agree_back, agree_from, same_row, fits_cut, get-without_other, no_kind, in_rest, first_some, in_image, agree_alike, at-paste_in, at-paste_out, at-with_at, at-with_other, to_tree_without}
use Rattle.signed_delta.specs.Disjoint.{AreApart}
use Rattle.signed_delta.proofs.Differences.{sides_apart}
use Rattle.revision.proofs.Changed.{items_those}
use Rattle.drop_delta.specs.Dropped.{edited, edited_source, filled_in, filling_for, value_of}

-- ---- one row

-- rows that agree on X are filled in alike
pub filling_alike : (A : Name) (X : Names) (a : Value) (M : Rows) (k row : Row) → agree X row k ≡ true → filling_for A X a M k ≡ filling_for A X a M row
filling_alike A X a M k row g =
    let alike : (r : Row) → agree X k r ≡ agree X row r = λ r. agree_alike X k row r (agree_back X row k g) in
    λ i. value_of A a (first_row (λ r. alike r i) M)

first_filtered : (p : Row → Bool) (xs : List Row) → slice_get (filter p xs) 0 ≡ find p xs
first_filtered p [] = refl
first_filtered p (x ∷ xs) =
    elim (p x) as (λ b. slice_get (cond b (x ∷ filter p xs) (filter p xs)) 0 ≡ cond b (Some x) (find p xs)) [
      | true ↦ refl
      | false ↦ first_filtered p xs
    ]

-- the first of the rows found by a row fills it in
pub first_fills : (A : Name) (X : Names) (a v : Value) (M found : Rows) (row : Row) → found ≡ find_by X row M → v ≡ value_of A a (slice_get (set.items found) 0) → v ≡ filling_for A X a M row
unfolding first_row
first_fills A X a v M found row is first =
    first ∙ ap (λ F. value_of A a (slice_get (set.items F) 0)) is
    ∙ ap (λ rows. value_of A a (slice_get rows 0)) (items_those (agree X row) M) ∙ ap (value_of A a) (first_filtered (agree X row) (set.items M))

-- ---- the rows

some_is : (o : Option Value) (a : Value) → is_some o ≡ true → Some (unwrap_or o a) ≡ o
some_is None a e = absurd (true≢false (sym e))
some_is (Some v) a e = refl

-- a row of the source has a value in A, so a row that is filled in is the row with the default taken along the edge
module _ (A : Name) (X : Names) (a : Value) (M : Rows) (x_out : (c : Name) → set.contains X c ≡ true → set.contains (one A) c ≡ false)
    (has_one : (m : Row) → has M m ≡ true → is_some (at m A) ≡ true) where
  moved_by : (n : Row) (o : Option Row) → first_row (agree X n) M ≡ o → with_at n A (Some (value_of A a o)) ≡ moved o (with_at n A (Some a)) (one A)
  moved_by n None first = refl
  moved_by n (Some f) first =
      let m = with_at n A (Some a) in
      let v = unwrap_or (at f A) a in
      same_row _ _ (λ c. elim (cases_Bool (set.contains (one A) c)) [
        | inl t ↦
            at-with_at n A (Some v) c ∙ ap (λ b. cond b (Some v) (at n c)) (ap (λ k. eq_by_cmp bytes_cmp k A) (one_is A c t) ∙ name_itself A)
            ∙ some_is (at f A) a (has_one f (first_some (agree X n) M f first).0) ∙ ap (at f) (sym (one_is A c t)) ∙ sym (at-paste_in m (one A) f c t)
        | inr o ↦ at-with_other n A (Some v) c o ∙ sym (at-paste_out m (one A) f c o ∙ at-with_other n A (Some a) c o)
      ])

  filled_along : (n : Row) → filled_in A X a M n ≡ along (edge X (one A)) (with_at n A (Some a)) M
  unfolding along
  filled_along n =
      let m = with_at n A (Some a) in
      let alike : (r : Row) → agree X n r ≡ agree X m r = λ r. agree_alike X n m r (agree_from X n m (λ c i. sym (at-with_other n A (Some a) c (x_out c i)))) in
      moved_by n (first_row (agree X n) M) refl ∙ (λ i. moved (first_row (λ r. alike r i) M) m (one A))

  -- the rows that are filled in, as the put of a drop makes them
  pub filled_are : (N : Rows) → image (filled_in A X a M) N ≡ drop_put A X a N M
  unfolding drop_put revise revise_row
  filled_are N =
      let e = edge X (one A) in
      let f = λ (n : Row). with_at n A (Some a) in
      same_rel _ _
      (λ r i. let w = from_image (filled_in A X a M) N r i in
      ap (has _) (w.2 ∙ filled_along w.0) ∙ in_image (λ m. revise_row (e ∷ []) m M) (image f N) (f w.0) (in_image f N w.0 w.1))
      (λ r i. let w = from_image (λ m. revise_row (e ∷ []) m M) (image f N) r i in
      let v = from_image f N w.0 w.1 in
      ap (has _) (w.2 ∙ ap (λ m. along e m M) v.2 ∙ sym (filled_along v.0)) ∙ in_image (filled_in A X a M) N v.0 v.1)

-- what is made of each row, one row further
pub made_more : (f : Row → Row) (rows made after : List Row) (i : ℕ) (row : Row) → i < length rows → row ≡ get_or rows i row
    → made ≡ map f (take i rows) → after ≡ made ++ f row ∷ [] → after ≡ map f (take (i + 1) rows)
made_more f rows made after i row below here so_far pushed =
    pushed ∙ ap (λ list. list ++ f row ∷ []) so_far ∙ ap (λ r. map f (take i rows) ++ f r ∷ []) here ∙ sym (map_more f rows i row below)

-- what is made of each row, up to the end of the list
pub made_all : (f : Row → Row) (M : Rows) (rows list : List Row) (i : ℕ) → rows ≡ set.items M → length rows ≤ i → list ≡ map f (take i rows) → set.from_list list ≡ image f M
unfolding image
made_all f M rows list i is past made = ap set.from_list (made ∙ ap (map f) (take_all i rows past ∙ is))

-- ---- the law, where X decides A

kind_some : (a : Value) (k : Option Kind) → fits_at (Some a) k ≡ true → is_some k ≡ true
kind_some a None e = e
kind_some a (Some k) e = refl

-- a column that takes the value is there
kind_there : (U : Columns) (A : Name) (a : Value) → fits_at (Some a) (finmap.get U A) ≡ true → set.contains (names U) A ≡ true
kind_there U A a fits = names-get U A ∙ kind_some a (finmap.get U A) fits

pub apart : (M N remove add : Rows) → ◌≡◌ {A = Delta} (record { remove = remove; add = add }) (diff M N) → AreApart remove add
unfolding diff
apart M N remove add is r i =
    ap (λ d. has d.add r) is ∙ sides_apart M N r (ap (λ d. has d.remove r) (sym is) ∙ i)

module _ (U : Columns) (A : Name) (X : Names) (a : Value) (M : Rows) (d : Delta) (column : fits_at (Some a) (finmap.get U A) ≡ true) (within : Within X (names U))
    (x_out : set.contains X A ≡ false) (fit : (r : Row) → has M r ≡ true → Fits U r) (decides : Meets M X (one A))
    (applies : Applies d (drop_get (names U) A M)) (added : (r : Row) → has d.add r ≡ true → Fits (without_column U A) r) where
  not_one : (c : Name) → set.contains X c ≡ true → set.contains (one A) c ≡ false
  not_one c i = elim (cases_Bool (set.contains (one A) c)) [
    | inl t ↦ absurd (true≢false (sym i ∙ ap (set.contains X) (one_is A c t) ∙ x_out))
    | inr f ↦ f
  ]

  -- the rows without A
  view_fits : (r : Row) → has (drop_get (names U) A M) r ≡ true → Fits (without_column U A) r
  unfolding drop_get
  view_fits r i =
      let w = from_project (set.difference (names U) (one A)) M r i in
      subst (λ q. Fits (without_column U A) q) (sym w.2) (fits_cut (without_column U A) U (set.difference (names U) (one A)) w.0 (fit w.0 w.1)
      (λ k j. sym (get-without_other U A k (from_rest (names U) (one A) k j).1))
      (λ k o. no_kind (without_column U A) k (ap (λ C. set.contains C k) (names-without U A) ∙ o)))

  pub removed_fit : (r : Row) → has d.remove r ≡ true → Fits (without_column U A) r
  removed_fit r i = view_fits r (applies.removes r i)

  -- a row without A has a value in each column of X
  pub have : (r : Row) → Fits (without_column U A) r → (c : Name) → set.contains X c ≡ true → is_some (at r c) ≡ true
  have r h c i = fits_names (without_column U A) r h c ∙ ap (λ C. set.contains C c) (names-without U A) ∙ in_rest (names U) (one A) c (within c i) (not_one c i)

  abbrev s : Shape
  s = record { columns = U; holds = λ _. true; tree = edge X (one A) ∷ [] }

  tree : IsTree s.tree
  tree = (not_one, tt, tt)

  can : CanDrop s A X a (λ _. true) (λ _. true)
  can = record {
    column = column;
    from = edge X (one A);
    among = inl refl;
    left = refl;
    right = one_itself A;
    lefts = (x_out, tt);
    split = λ r. refl;
    ignores = λ x y h. refl;
    default = refl;
  }

  of_source : IsIn M s
  of_source = record { columns = fit; holds = λ r i. refl; meets = (decides, tt) }

  of_view : IsIn (edited U A M d) (drop_shape s A (λ _. true))
  of_view = record {
    columns = λ r i. elim (from_new_view (drop_get (names U) A M) d r i) [ inl w ↦ view_fits r w.0 | inr j ↦ added r j ];
    holds = λ r i. refl;
    meets = to_tree_without (one A) (edited U A M d) s.tree (
      λ x y ix iy g. agree_from (set.difference (one A) (one A)) x y (λ c i. let w = from_rest (one A) (one A) c i in absurd (true≢false (sym w.0 ∙ w.1))),
      tt,
    );
  }

  is_difference : drop_delta A X a M d ≡ diff M (edited_source U A X a M d)
  is_difference = drop_delta_is s A X a (λ _. true) (λ _. true) tree can M d of_source applies of_view

  -- each row of the source has a value in A
  has_one : (m : Row) → has M m ≡ true → is_some (at m A) ≡ true
  has_one m i = fits_names U m (fit m i) A ∙ kind_there U A a column

  -- the rows to remove and to add, filled in
  pub carried : (remove add : Rows) → remove ≡ image (filled_in A X a M) d.remove → add ≡ image (filled_in A X a M) d.add
      → ◌≡◌ {A = Delta} (record { remove = remove; add = add }) (diff M (edited_source U A X a M d))
  unfolding drop_delta
  carried remove add removes adds =
      let removed : remove ≡ drop_put A X a d.remove M = removes ∙ filled_are A X a M not_one has_one d.remove in
      let came : add ≡ drop_put A X a d.add M = adds ∙ filled_are A X a M not_one has_one d.add in
      (λ i. record { remove = removed i; add = came i }) ∙ is_difference
