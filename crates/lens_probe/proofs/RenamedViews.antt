-- A rename: its rows by key, whether it has a row, and how many looks they take.
use Rattle.std.proofs.Common.{◌≡◌, ◌∙◌, ℕ, ap, is_some, map, subst, sym, true, false, IfOk, Result, if◌then◌else◌}
use Rattle.plain_values.proofs.Common.{eq_by_cmp, false_from_ne_true, bytes_cmp, Row, absurd_false}
use Rattle.no_memory.specs.declared.NoMemory.{NoMemory}
use Rattle.plain_values.specs.SortedSet as set
use Rattle.lens_specs.specs.Common.{Fits, Lens, Tables, get, rename, sort_of, view_names, Name, Names, Within, rename_get, Rows, has, image, renamed_names, renamed_row, agree, at}
use Rattle.fd_laws.proofs.Common.{name_itself, from_those}
use Rattle.lens_laws.proofs.Common.{keys_at, IsOver, find_by, AreOf, IsTyped, CanRename, shape_of, size, hands_down, keys_reach, get_sort, fits_is_over, over_renamed, rename_can, has_rename, not_old, names-renamed, to_in}
use Rattle.lens_laws.proofs.Rename.{find_rename}
use Rattle.base_index.specs.Held.{State}
use Rattle.lens_probe.specs.Looking.{FindsWithin, LooksWithin, MayFind, MayLook}
use Rattle.lens_probe.proofs.Viewing.{under_rename}

-- names in which one was exchanged
pub names_are : (A B : Name) (C D : Names) → D ≡ set.image (λ c. if eq_by_cmp bytes_cmp c A then B else c) C → D ≡ renamed_names A B C
unfolding renamed_names
names_are A B C D is = is

module _ (A B : Name) (S : Lens) (typed : IsTyped (rename A B S)) where
  can : CanRename (shape_of (sort_of S)) A B
  can = rename_can A B S typed

  shown_names : view_names (rename A B S) ≡ renamed_names A B (view_names S)
  shown_names = names-renamed A B (sort_of S).columns typed.1.column typed.1.free

  -- no set of its columns has the old name
  lacks_old : (C : Names) → Within C (view_names (rename A B S)) → set.contains C A ≡ false
  lacks_old C w = false_from_ne_true _ (λ i.
      absurd_false _ (name_itself A) (not_old (shape_of (sort_of S)) A B can A (subst (λ D. set.contains D A ≡ true) shown_names (w A i))))

  -- a row of it has no value there
  pub row_lacks : (r : Row) → Fits (sort_of (rename A B S)).columns r → is_some (at r A) ≡ false
  row_lacks r fits = fits_is_over (sort_of (rename A B S)).columns r fits A ∙ lacks_old (view_names (rename A B S)) (λ c i. i)

  -- a row of it, with the old name, fits the source
  pub old_row_fits : (db : Tables) (r q : Row) → AreOf S db → Fits (sort_of (rename A B S)).columns r → q ≡ renamed_row B A r → Fits (sort_of S).columns q
  old_row_fits db r q are fits is =
      subst (Fits (sort_of S).columns) (sym is) (has_rename (shape_of (sort_of S)) A B can (get S db) (to_in (get S db) (sort_of S) (get_sort S db typed.0 are)) r fits).1

  -- and is there where the row is
  pub renamed_has : (db : Tables) (r q : Row) → AreOf S db → Fits (sort_of (rename A B S)).columns r → q ≡ renamed_row B A r → has (get S db) q ≡ has (get (rename A B S) db) r
  unfolding get
  renamed_has db r q are fits is =
      ap (has (get S db)) is ∙ sym (has_rename (shape_of (sort_of S)) A B can (get S db) (to_in (get S db) (sort_of S) (get_sort S db typed.0 are)) r fits).0

  module _ (st : State) (C : Names) (may : MayFind (rename A B S) st C) where
    within : Within C (view_names (rename A B S))
    within = ((hands_down (rename A B S) may.0 typed may.1.keys may.1.sets).0 C may.2).1

    within_new : Within C (renamed_names A B (view_names S))
    within_new = subst (Within C) shown_names within

    -- a key has no value under the old name
    pub key_lacks : (k : Row) → IsOver C k → is_some (at k A) ≡ false
    key_lacks k over = over A ∙ lacks_old C within

    -- the source may be asked by the old names
    pub old_asked : (D : Names) → D ≡ renamed_names B A C → MayFind S st D
    old_asked D cols = subst (MayFind S st) (sym cols)
        (map (renamed_names B A) (keys_at (rename A B S) may.0), under_rename A B S may.0 st typed may.1, (keys_reach (rename A B S) may.0 typed may.1.keys may.1.sets C may.2).0)

    -- and by the key with them
    pub old_over : (D : Names) (k q : Row) → IsOver C k → D ≡ renamed_names B A C → q ≡ renamed_row B A k → IsOver D q
    old_over D k q over cols is =
        subst (λ E. IsOver E q) (sym cols)
        (subst (IsOver (renamed_names B A C)) (sym is) (over_renamed A B C k (λ c i. not_old (shape_of (sort_of S)) A B can c (within_new c i)) over))

    -- what it finds, renamed, is what is found
    pub renamed_finds : (r : Result Rows NoMemory) (D : Names) (k q : Row) (found : Rows) → D ≡ renamed_names B A C → q ≡ renamed_row B A k → found ≡ find_by D q (get S st.relations)
        → IfOk r (λ all. all ≡ image (renamed_row A B) found) → IfOk r (λ all. all ≡ find_by C k (get (rename A B S) st.relations))
    unfolding get rename_get
    renamed_finds r D k q found cols is of =
        let M = get S st.relations in
        subst (λ N. IfOk r (λ all. all ≡ N))
        (ap (image (renamed_row A B)) (of ∙ (λ i. find_by (cols i) (is i) M))
        ∙ sym (find_rename (shape_of (sort_of S)) A B can M (to_in M (sort_of S) (get_sort S st.relations typed.0 may.1.tables)) C within_new k))

  -- ---- how many looks

  pub rename_size : (w : ℕ) → size S w ≡ size (rename A B S) w
  unfolding size
  rename_size w = λ i. size S w

  pub old_finds : (st : State) (C D : Names) (w : ℕ) → D ≡ renamed_names B A C → FindsWithin (rename A B S) st C w → FindsWithin S st D w
  old_finds st C D w cols f = subst (λ E. FindsWithin S st E w) (sym cols)
      (map (renamed_names B A) (keys_at (rename A B S) f.0), under_rename A B S f.0 st typed f.1, (keys_reach (rename A B S) f.0 typed f.1.keys f.1.sets C f.2).0, f.3)

  pub old_looks : (st : State) (w : ℕ) → LooksWithin (rename A B S) st w → LooksWithin S st w
  old_looks st w f = (map (renamed_names B A) (keys_at (rename A B S) f.0), under_rename A B S f.0 st typed f.1, f.2)

-- a row found is one of the rows
pub found_there : (C : Names) (k r : Row) (M F : Rows) → F ≡ find_by C k M → has F r ≡ true → has M r ≡ true
found_there C k r M F is i = (from_those (agree C k) M r (ap (λ N. has N r) (sym is) ∙ i)).0

-- ---- seen from the lens that it is

module _ (L S : Lens) (A B : Name) (is : rename A B S ≡ L) (typed : IsTyped L) where
  here : IsTyped (rename A B S)
  here = subst IsTyped (sym is) typed

  fits_here : (r : Row) → Fits (sort_of L).columns r → Fits (sort_of (rename A B S)).columns r
  fits_here r fits = subst (λ M. Fits (sort_of M).columns r) (sym is) fits

  are_here : (db : Tables) → AreOf L db → AreOf S db
  are_here db are = subst (λ M. AreOf M db) (sym is) are

  pub source_looks : (st : State) → MayLook L st → MayLook S st
  source_looks st may =
      let m = subst (λ M. MayLook M st) (sym is) may in
      (map (renamed_names B A) (keys_at (rename A B S) m.0), under_rename A B S m.0 st here m.1)

  pub lacks_in : (r : Row) → Fits (sort_of L).columns r → is_some (at r A) ≡ false
  lacks_in r fits = row_lacks A B S here r (fits_here r fits)

  pub fits_in : (st : State) (r q : Row) → MayLook L st → Fits (sort_of L).columns r → q ≡ renamed_row B A r → Fits (sort_of S).columns q
  fits_in st r q may fits old = old_row_fits A B S here st.relations r q (are_here st.relations may.1.tables) (fits_here r fits) old

  pub has_in_rename : (st : State) (r q : Row) → MayLook L st → Fits (sort_of L).columns r → q ≡ renamed_row B A r → has (get S st.relations) q ≡ has (get L st.relations) r
  has_in_rename st r q may fits old =
      renamed_has A B S here st.relations r q (are_here st.relations may.1.tables) (fits_here r fits) old ∙ ap (λ M. has (get M st.relations) r) is

  pub size_in : (w : ℕ) → size S w ≡ size L w
  size_in w = rename_size A B S here w ∙ ap (λ M. size M w) is

  pub looks_in : (st : State) (w : ℕ) → LooksWithin L st w → LooksWithin S st w
  looks_in st w f = old_looks A B S here st w (subst (λ M. LooksWithin M st w) (sym is) f)
