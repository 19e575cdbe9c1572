-- Look-ups by key at each root of a lens.
use Rattle.std.proofs.Common.{◌≡◌, ◌∙◌, ◌∷◌, ◌++◌, ◌+◌, ◌<◌, ℕ, Bool, List, [], ap, arith, cond, filter, get_or, length, map, refl, subst, sym, take, true, false, IfOk, Result, flat_map}
use Rattle.plain_values.proofs.Common.{Contains, list_all, and_from, and_parts, flat_map_more, take_all, take_more, override, restrict, Row, same_bool}
use Rattle.no_memory.specs.declared.NoMemory.{NoMemory}
use Rattle.plain_values.specs.SortedSet as set
use Rattle.plain_values.specs.declared.value.Value.{Value}
use Rattle.plain_values.specs.declared.join_kind.JoinKind.{JoinKind}
use Rattle.lens_specs.specs.Common.{Lens, Tables, base, select, drop, get, sort_of, view_names, Name, Names, Within, one, share, Predicate, holds, Rows, project, those, drop_get, agree, cut, Sort, join}
use Rattle.fd_laws.proofs.Common.{names-without, name_exact, name_total, from_those, agree-cut, agree_back, agree_on, agree_within, row_exact, row_total, subset_is}
use Rattle.lens_laws.proofs.Common.{keys_at, Reaches, AllFit, find_by, AreOf, IsTyped, keys_reach, get_sort, find_alike, fits_is_over}
use Rattle.lens_laws.proofs.Asked.{keys_are}
use Rattle.lens_laws.proofs.Finds.{find_project, find_select}
use Rattle.lens_laws.proofs.NodeFinds.{find_cut}
use Rattle.lens_laws.proofs.PastedFinds.{found_are_over, left_pairs_are, right_pairs_are, shared_within}
use Rattle.signed_delta.specs.Keys.{HasColumns}
use Rattle.signed_delta.proofs.Looks.{passed_are}
use Rattle.base_index.specs.Held.{State, relation_in}
use Rattle.lens_probe.specs.Looking.{MayFind, both_of, find_part, pairs_of}
use Rattle.view_reading.proofs.Bases.{rows_shown}
use Rattle.view_reading.proofs.Listed.{own_parts, parts}
use Rattle.lens_probe.proofs.KeyColumns.{has_as_part}
use Rattle.lens_probe.proofs.Viewing.{under_drop, under_left, under_right, under_select}

-- ---- a table

pub table_finds : (r : Result Rows NoMemory) (L : Lens) (t : Name) (s : Sort) (db : Tables) (C : Names) (k : Row) → base t s ≡ L → IfOk r (λ found. found ≡ those (agree C k) (relation_in db t).rows)
    → IfOk r (λ found. found ≡ find_by C k (get L db))
table_finds r L t s db C k is = subst (λ M. IfOk r (λ found. found ≡ find_by C k M)) (rows_shown L t s db is)

-- ---- a selection

select_asks : (P : Predicate) (S : Lens) (st : State) (C : Names) → IsTyped (select P S) → MayFind (select P S) st C → MayFind S st C
select_asks P S st C typed may =
    let K = may.0 in let can = may.1 in
    (keys_at (select P S) K, under_select P S K st typed can, (keys_reach (select P S) K typed can.keys can.sets C may.2).0)

pub source_of_select : (L S : Lens) (P : Predicate) (st : State) (C : Names) → select P S ≡ L → IsTyped L → MayFind L st C → MayFind S st C
source_of_select L S P st C is typed may = select_asks P S st C (subst IsTyped (sym is) typed) (subst (λ M. MayFind M st C) (sym is) may)

pub select_finds : (r : Result Rows NoMemory) (L S : Lens) (P : Predicate) (db : Tables) (C : Names) (k : Row) (found : Rows) → select P S ≡ L → found ≡ find_by C k (get S db)
    → IfOk r (λ some. some ≡ those (holds P) found) → IfOk r (λ some. some ≡ find_by C k (get L db))
unfolding get
select_finds r L S P db C k found is of =
    subst (λ M. IfOk r (λ some. some ≡ M)) (ap (those (holds P)) of ∙ sym (find_select (holds P) C k (get S db)) ∙ ap (λ M. find_by C k (get M db)) is)

-- ---- the columns of a look-up

-- are all shown
pub shown_to : (L : Lens) (st : State) (C : Names) → IsTyped L → MayFind L st C → Within C (view_names L)
shown_to L st C typed may = (keys_are L may.0 typed may.1.keys may.1.sets C may.2).1

-- what is found is its own part
pub found_whole : (L : Lens) (st : State) (C : Names) (k : Row) → IsTyped L → AreOf L st.relations → project (view_names L) (find_by C k (get L st.relations)) ≡ find_by C k (get L st.relations)
found_whole L st C k typed are = own_parts (view_names L) (find_by C k (get L st.relations))
    (λ r i. fits_is_over (sort_of L).columns r ((get_sort L st.relations typed are).columns r (from_those (agree C k) (get L st.relations) r i).0))

-- ---- a projection

drop_asks : (A : Name) (X : Names) (v : Value) (S : Lens) (st : State) (C : Names) → IsTyped (drop A X v S) → MayFind (drop A X v S) st C
    → MayFind S st C × Within C (set.difference (view_names S) (one A))
drop_asks A X v S st C typed may =
    let K = may.0 in let can = may.1 in
    let reach = keys_reach (drop A X v S) K typed can.keys can.sets C may.2 in
    ((X ∷ keys_at (drop A X v S) K, under_drop A X v S K st typed can, reach.0.0), reach.2)

pub source_of_drop : (L S : Lens) (A : Name) (X : Names) (v : Value) (st : State) (C : Names) → drop A X v S ≡ L → IsTyped L → MayFind L st C → MayFind S st C
source_of_drop L S A X v st C is typed may = (drop_asks A X v S st C (subst IsTyped (sym is) typed) (subst (λ M. MayFind M st C) (sym is) may)).0

drop_finds_at : (A : Name) (X : Names) (v : Value) (S : Lens) (st : State) (C D : Names) (k : Row) (found : Rows) → IsTyped (drop A X v S) → MayFind (drop A X v S) st C → D ≡ view_names (drop A X v S)
    → found ≡ find_by C k (get S st.relations) → project D found ≡ find_by C k (get (drop A X v S) st.relations)
unfolding get drop_get
drop_finds_at A X v S st C D k found typed may cols of =
    let E = set.difference (view_names S) (one A) in
    ap (λ Z. project Z found) (cols ∙ names-without (sort_of S).columns A) ∙ ap (project E) of
    ∙ sym (find_project C E k (get S st.relations) (drop_asks A X v S st C typed may).1)

pub drop_finds : (r : Result Rows NoMemory) (L S : Lens) (A : Name) (X : Names) (v : Value) (st : State) (C D : Names) (k : Row) (found : Rows) → drop A X v S ≡ L → IsTyped L → MayFind L st C → D ≡ view_names L
    → found ≡ find_by C k (get S st.relations) → IfOk r (λ part. part ≡ project D found) → IfOk r (λ part. part ≡ find_by C k (get L st.relations))
drop_finds r L S A X v st C D k found is typed may cols of =
    let here = drop_finds_at A X v S st C D k found (subst IsTyped (sym is) typed) (subst (λ M. MayFind M st C) (sym is) may) (cols ∙ ap view_names (sym is)) of in
    subst (λ M. IfOk r (λ part. part ≡ M)) (here ∙ ap (λ M. find_by C k (get M st.relations)) is)

-- ---- what is kept of pairs

-- the test by a key of some columns sees their part alone
agree_part : (C K : Names) (k r : Row) → Within C K → agree C k (restrict K r) ≡ agree C k r
unfolding cut
agree_part C K k r within =
    let same : agree C (cut K r) r ≡ true = agree_within C K (cut K r) r within (agree-cut K r) in
    same_bool _ _ (λ i. agree_on C k (cut K r) r i same) (λ i. agree_on C k r (cut K r) i (agree_back C (cut K r) r same))

module _ (C K : Names) (k : Row) (within : Within C K) where
  -- parts that pass are the parts of those that pass
  passed_cut : {X : Type 0} (with : X → Row) (xs : List X) → filter (agree C k) (map (λ x. restrict K (with x)) xs) ≡ map (restrict K) (filter (agree C k) (map with xs))
  passed_cut with [] = refl
  passed_cut with (x ∷ xs) =
      (λ i. cond (agree_part C K k (with x) within i) (restrict K (with x) ∷ passed_cut with xs i) (passed_cut with xs i))
      ∙ chosen_cut (agree C k (with x)) (with x) (filter (agree C k) (map with xs))
    where
      chosen_cut : (b : Bool) (r : Row) (rs : List Row) → cond b (restrict K r ∷ map (restrict K) rs) (map (restrict K) rs) ≡ map (restrict K) (cond b (r ∷ rs) rs)
      chosen_cut true r rs = refl
      chosen_cut false r rs = refl

  joined_cut : (ps qs : List Row) → map (restrict K) ps ++ map (restrict K) qs ≡ map (restrict K) (ps ++ qs)
  joined_cut [] qs = refl
  joined_cut (p ∷ ps) qs = ap (λ l. restrict K p ∷ l) (joined_cut ps qs)

  pub left_cut : (S : Names) (N : Rows) (rows : List Row)
      → pairs_of true S K C k N rows ≡ map (restrict K) (flat_map (λ m. filter (agree C k) (map (λ n. override n m) (set.items (find_by S (restrict S m) N)))) rows)
  left_cut S N [] = refl
  left_cut S N (m ∷ rows) = (λ i. passed_cut (λ n. override n m) (set.items (find_by S (restrict S m) N)) i ++ left_cut S N rows i) ∙ joined_cut _ _

  pub right_cut : (S : Names) (M : Rows) (rows : List Row)
      → pairs_of false S K C k M rows ≡ map (restrict K) (flat_map (λ n. filter (agree C k) (map (λ m. override n m) (set.items (find_by S (restrict S n) M)))) rows)
  right_cut S M [] = refl
  right_cut S M (n ∷ rows) = (λ i. passed_cut (λ m. override n m) (set.items (find_by S (restrict S n) M)) i ++ right_cut S M rows i) ∙ joined_cut _ _

-- ---- a join

module _ (kind : JoinKind) (A B : Lens) (st : State) (C : Names) (typed : IsTyped (join kind A B)) (may : MayFind (join kind A B) st C) where
  reach : Reaches (join kind A B) may.0 C
  reach = keys_reach (join kind A B) may.0 typed may.1.keys may.1.sets C may.2

  -- the side that is asked first, by its part of the key
  pub left_asked : share C (view_names A) ≡ true → MayFind A st (set.intersection C (view_names A))
  left_asked meets = (_, under_left kind A B may.0 st typed may.1, (reach.0 meets).0)

  pub right_asked : share C (view_names A) ≡ false → MayFind B st (set.intersection C (view_names B))
  right_asked apart = (_, under_right kind A B may.0 st typed may.1, (reach.1 apart).0)

  -- and the other one, by the shared columns
  pub left_matches : (S : Names) → S ≡ set.intersection (view_names A) (view_names B) → MayFind A st S
  left_matches S shared = subst (MayFind A st) (sym shared) (_, under_left kind A B may.0 st typed may.1, reach.2.0)

  pub right_matches : (S : Names) → S ≡ set.intersection (view_names A) (view_names B) → MayFind B st S
  right_matches S shared = subst (MayFind B st) (sym shared) (_, under_right kind A B may.0 st typed may.1, reach.3.0)

  left_fit : AllFit (sort_of A).columns (get A st.relations)
  left_fit = (get_sort A st.relations typed.0 may.1.tables.0).columns

  right_fit : AllFit (sort_of B).columns (get B st.relations)
  right_fit = (get_sort B st.relations typed.1 may.1.tables.1).columns

  -- the shared columns are those of both sides
  pub shared_in : (S : Names) → S ≡ set.intersection (view_names A) (view_names B) → Within S (view_names A) × Within S (view_names B)
  shared_in S shared = shared_within (sort_of A).columns (sort_of B).columns (view_names A) (view_names B) S refl refl shared

  -- what is kept of the pairs of rows found on both sides is what is kept of what the join finds
  module _ (k : Row) (S K : Names) (shared : S ≡ set.intersection (view_names A) (view_names B)) (within : Within C K) (r : Result Rows NoMemory) where
    pub left_finds : IfOk r (λ all. all ≡ set.from_list (pairs_of true S K C k (get B st.relations) (set.items (find_part C k (view_names A) (get A st.relations)))))
        → IfOk r (λ all. all ≡ project K (find_by C k (get (join kind A B) st.relations)))
    unfolding get
    left_finds =
        let P = set.intersection C (view_names A) in
        let F = find_part C k (view_names A) (get A st.relations) in
        let all = flat_map (λ m. filter (agree C k) (map (λ n. override n m) (set.items (find_by S (restrict S m) (get B st.relations))))) (set.items F) in
        subst (λ M. IfOk r (λ all. all ≡ M))
        (ap set.from_list (left_cut C K k within S (get B st.relations) (set.items F))
        ∙ parts K all _ (left_pairs_are (sort_of A).columns (sort_of B).columns (get A st.relations) (get B st.relations) left_fit right_fit C k (view_names A) (view_names B) S P (restrict P k) F (set.items F) all refl refl shared refl refl refl refl refl))

    pub right_finds : IfOk r (λ all. all ≡ set.from_list (pairs_of false S K C k (get A st.relations) (set.items (find_part C k (view_names B) (get B st.relations)))))
        → IfOk r (λ all. all ≡ project K (find_by C k (get (join kind A B) st.relations)))
    unfolding get
    right_finds =
        let P = set.intersection C (view_names B) in
        let F = find_part C k (view_names B) (get B st.relations) in
        let all = flat_map (λ n. filter (agree C k) (map (λ m. override n m) (set.items (find_by S (restrict S n) (get A st.relations))))) (set.items F) in
        subst (λ M. IfOk r (λ all. all ≡ M))
        (ap set.from_list (right_cut C K k within S (get A st.relations) (set.items F))
        ∙ parts K all _ (right_pairs_are (sort_of A).columns (sort_of B).columns (get A st.relations) (get B st.relations) left_fit right_fit C k (view_names A) (view_names B) S P (restrict P k) F (set.items F) all refl refl shared refl refl refl refl refl))

-- each row that a side finds has the shared columns
pub rows_over : (A : Lens) (st : State) (C S : Names) (k : Row) (F : Rows) (rows : List Row) → IsTyped A → AreOf A st.relations → Within S (view_names A) → F ≡ find_part C k (view_names A) (get A st.relations) → rows ≡ set.items F
    → (m : Row) → Contains rows m → HasColumns S m
rows_over A st C S k F rows typed are within found listed m i =
    let P = set.intersection C (view_names A) in
    has_as_part S m (found_are_over (sort_of A).columns S P (restrict P k) (get A st.relations) F rows (get_sort A st.relations typed are).columns within found listed m i)

-- columns that are all among others are what both have
pub whole_part : (C U : Names) → set.is_subset C U ≡ true → set.intersection C U ≡ C
whole_part C U within =
    set.same_set name_total name_exact _ _ (λ c. set.contains-intersection name_total C U c ∙ same_bool _ _ (λ i. (and_parts _ _ i).0) (λ i. and_from _ _ i (subset_is C U within c i)))

-- and the part of a key in them finds what the key finds
pub found_by_whole : (C U : Names) (k : Row) (N : Rows) → set.intersection C U ≡ C → find_by C k N ≡ (let P = set.intersection C U in find_by P (restrict P k) N)
unfolding cut
found_by_whole C U k N whole = ap (λ P. find_by P k N) (sym whole) ∙ sym (find_cut (set.intersection C U) k N)

-- the partners of a row are those of another one that agrees with it
pub partners_again : (S : Names) (N : Rows) (row key : Row) (rows : Rows) → rows ≡ find_by S key N → agree S row key ≡ true → rows ≡ find_by S (restrict S row) N
unfolding cut
partners_again S N row key rows found alike = found ∙ find_alike S key row N (agree_back S row key alike) ∙ sym (find_cut S row N)

-- one row more
pub next_pairs : (is_left : Bool) (S K C : Names) (k : Row) (N : Rows) (rows : List Row) (i : ℕ) (row : Row) (found : Rows) (others old new : List Row) → i < length rows → row ≡ get_or rows i row
    → found ≡ find_by S (restrict S row) N → others ≡ set.items found → old ≡ pairs_of is_left S K C k N (take i rows) → new ≡ old ++ filter (agree C k) (map (both_of is_left K row) others) → new ≡ pairs_of is_left S K C k N (take (i + 1) rows)
next_pairs is_left S K C k N rows i row found others old new below here of listed before now =
    let pairs : Row → List Row = λ m. filter (agree C k) (map (both_of is_left K m) (set.items (find_by S (restrict S m) N))) in
    let mine = ap (λ z. filter (agree C k) (map (both_of is_left K row) z)) (listed ∙ ap set.items of) in
    now ∙ (λ z. before z ++ mine z) ∙ flat_map_more pairs [] (take i rows) row
    ∙ ap (flat_map pairs) (ap (λ r. take i rows ++ r ∷ []) here ∙ sym (take_more rows i row below))

all_kept : (p : Row → Bool) (rows : List Row) → list_all p rows ≡ true → filter p rows ≡ rows
all_kept p [] e = refl
all_kept p (r ∷ rs) e =
    let both = and_parts (p r) (list_all p rs) e in
    ap (λ b. cond b (r ∷ filter p rs) (filter p rs)) both.0 ∙ ap (λ z. r ∷ z) (all_kept p rs both.1)

-- rows that all pass are those that pass
pub all_pass : (p : Row → Bool) (M : Rows) (rows : List Row) → rows ≡ set.items M → list_all p rows ≡ true → M ≡ those p M
all_pass p M rows is pass =
    let all = ap (filter p) (take_all (length rows) (set.items M) (omega (arith, ap length is)) ∙ sym is) ∙ all_kept p rows pass in
    sym (set.from_list-items row_total row_exact M) ∙ ap set.from_list (sym is) ∙ passed_are p M rows rows (length rows) is (omega arith) (sym all)
