-- What a join of two lenses shows, and a put to it.
use Rattle.std.proofs.Common.{◌≡◌, ◌∙◌, Bool, true, false, not, cond, List, [], ◌∷◌, ap, refl, subst, sym, Option, Some, None, Ok, find, is_some}
use Rattle.plain_values.proofs.Common.{true≢false, eq_by_cmp, bytes_cmp, in_head, in_tail}
use Rattle.std.specs.FinMap as finmap
use Rattle.plain_values.specs.SortedSet as set
use Rattle.plain_values.specs.declared.join_kind.JoinKind.{JoinKind}
use Rattle.plain_values.specs.declared.value.Kind.{Kind}
use Rattle.plain_values.proofs.ValueLemmas.{kind_itself}
use Rattle.lens_specs.specs.Common.{Columns, both_columns, kinds_differ, names, Edge, MeetsTree, Lens, Tables, get, put, sort_of, tables_of, view, view_names, Name, is_among, join_get, join_left_after, join_right_after, Relation, Rows, project, IsOf, IsOfSort, Sort, like_kinds, join}
use Rattle.lens_specs.specs.Typing as typing
use Rattle.fd_laws.proofs.Common.{names-get, from_shared, name_itself, tied_name, apart_back}
use Rattle.lens_laws.proofs.Common.{AreOf, IsTyped, IsIn, join_shape, shape_of, part_left, are_same, put_leaves, both_can, join_law, sound, join_sort_is, clash_none, to_in, given_is}
use Rattle.lens_laws.proofs.Join.{part_right}
use Rattle.whole_put.specs.Joinable.{CanBePut}
use Rattle.whole_put.specs.Sources.{AreShown}
use Rattle.whole_put.specs.declared.sources.Sources.{Sources}
use Rattle.whole_put.proofs.Lenses.{over}
use Rattle.whole_put.proofs.Shown.{shown_alike_after}

-- ---- shared columns

alike : (o p : Option Kind) → o ≡ p → is_some o ≡ true → not (like_kinds o p) ≡ false
alike None p e i = absurd (true≢false (sym i))
alike (Some k) p e i = ap (λ q. not (like_kinds (Some k) q)) (sym e) ∙ ap not (kind_itself k)

find_nothing : (p : Name → Bool) (ns : List Name) → ((c : Name) → is_among c ns ≡ true → p c ≡ false) → find p ns ≡ None
find_nothing p [] h = refl
find_nothing p (n ∷ ns) h =
    ap (λ b. cond b (Some n) (find p ns)) (h n (in_head (eq_by_cmp bytes_cmp) tied_name name_itself n ns))
    ∙ find_nothing p ns (λ c i. h c (in_tail (eq_by_cmp bytes_cmp) tied_name name_itself c n ns i))

one_kind_each : (U V : Columns) → ((c : Name) → set.contains (names U) c ≡ true → set.contains (names V) c ≡ true → finmap.get U c ≡ finmap.get V c) → kinds_differ U V ≡ None
one_kind_each U V same = find_nothing (λ c. not (like_kinds (finmap.get U c) (finmap.get V c))) (set.items (set.intersection (names U) (names V))) (λ c i.
    let w = from_shared (names U) (names V) c (set.contains-items (set.intersection (names U) (names V)) c ∙ i) in
    alike (finmap.get U c) (finmap.get V c) (same c w.0 w.1) (sym (names-get U c) ∙ w.0))

-- ---- what is shown

-- the join of what both sides show is what a join shows
pub shown_joined : (kind : JoinKind) (L A B : Lens) (db : Tables) (M N : Relation) → join kind A B ≡ L → M ≡ view A db → N ≡ view B db
    → record { columns = both_columns M.columns N.columns; rows = join_get (names M.columns) (names N.columns) M.rows N.rows } ≡ view L db
unfolding get
shown_joined kind L A B db M N is left right =
    (λ i. record { columns = both_columns (left i).columns (right i).columns; rows = join_get (names (left i).columns) (names (right i).columns) (left i).rows (right i).rows })
    ∙ ap (λ K. view K db) is

-- ---- a put

-- the rows of the left side after a put of a join
abbrev pub left_after : JoinKind → Lens → Lens → Rows → Rows → Rows → Rows
left_after kind A B O M N = join_left_after kind (view_names A) (view_names B) (sort_of A).tree (sort_of B).tree O M N

-- the rows of the right side
abbrev pub right_after : JoinKind → Lens → Lens → Rows → Rows → Rows → Rows
right_after kind A B O M N = join_right_after kind (view_names A) (view_names B) (sort_of A).tree (sort_of B).tree O M N

-- the tree of the sort that the rules give
pub kept_tree : (L : Lens) (s : Sort) (T : List Edge) → IsTyped L → typing.sort L ≡ Ok s → T ≡ s.tree → T ≡ (sort_of L).tree
kept_tree L s T typed given tree = tree ∙ ap (λ (k : Sort). k.tree) (given_is L s typed given)

module _ (kind : JoinKind) (A B : Lens) (typed : IsTyped (join kind A B)) where
  kinds : kinds_differ (sort_of A).columns (sort_of B).columns ≡ None
  kinds = one_kind_each (sort_of A).columns (sort_of B).columns typed.2.kinds

  -- what both sides show can be joined
  pub shown_alike : (db : Tables) (M N : Relation) → M ≡ view A db → N ≡ view B db → kinds_differ M.columns N.columns ≡ None
  shown_alike db M N left right = (λ i. kinds_differ (left i).columns (right i).columns) ∙ kinds

  can_be_put : CanBePut (sort_of A).columns (sort_of B).columns (sort_of A).tree (sort_of B).tree
  can_be_put = record {
    left_within = (sound A typed.0).within;
    right_within = (sound B typed.1).within;
    kinds = kinds;
    decides = typed.2.decides;
  }

  in_view : (O : Rows) → IsOf O (sort_of (join kind A B)) → IsIn O (join_shape (shape_of (sort_of A)) (shape_of (sort_of B)) (sort_of (join kind A B)).tree)
  in_view O o = subst (λ k. IsIn O k) (join_sort_is (sort_of A) (sort_of B)) (to_in O (sort_of (join kind A B)) o)

  module _ (M N : Relation) (F G : List Edge) (left : IsOfSort M (sort_of A)) (right : IsOfSort N (sort_of B)) (left_tree : F ≡ (sort_of A).tree) (right_tree : G ≡ (sort_of B).tree) where
    pub put_can : CanBePut M.columns N.columns F G
    put_can =
        let left_columns = left.0 in
        let right_columns = right.0 in
        rw (left_columns, right_columns, left_tree, right_tree) can_be_put

    pub left_meets : MeetsTree M.rows F
    left_meets = rw left_tree (clash_none (sort_of A).tree M.rows left.1.clash)

    pub right_meets : MeetsTree N.rows G
    right_meets = rw right_tree (clash_none (sort_of B).tree N.rows right.1.clash)

    pub columns_of_both : (sort_of (join kind A B)).columns ≡ both_columns M.columns N.columns
    columns_of_both = λ i. both_columns (sym left.0 i) (sym right.0 i)

    -- the parts of the view meet the trees
    pub view_left : (O : Rows) → IsOf O (sort_of (join kind A B)) → MeetsTree (project (names M.columns) O) F
    view_left O o =
        let left_columns = left.0 in
        rw (left_columns, left_tree) (part_left (shape_of (sort_of A)) (shape_of (sort_of B)) (sort_of (join kind A B)).tree (both_can kind A B typed) O (in_view O o)).meets

    pub view_right : (O : Rows) → IsOf O (sort_of (join kind A B)) → MeetsTree (project (names N.columns) O) G
    view_right O o =
        let right_columns = right.0 in
        rw (right_columns, right_tree) (part_right (shape_of (sort_of A)) (shape_of (sort_of B)) (sort_of (join kind A B)).tree (both_can kind A B typed) O (in_view O o)).meets

    -- ---- the sources after a put

    pub left_source : (O : Rows) (after : Relation) → after ≡ record M { rows = join_left_after kind (names M.columns) (names N.columns) F G O M.rows N.rows } → after ≡ over A (left_after kind A B O M.rows N.rows)
    left_source O after is =
        is ∙ (λ i. record { columns = left.0 i; rows = join_left_after kind (names (left.0 i)) (names (right.0 i)) (left_tree i) (right_tree i) O M.rows N.rows })

    pub right_source : (O : Rows) (after : Relation) → after ≡ record N { rows = join_right_after kind (names M.columns) (names N.columns) F G O M.rows N.rows } → after ≡ over B (right_after kind A B O M.rows N.rows)
    right_source O after is =
        is ∙ (λ i. record { columns = right.0 i; rows = join_right_after kind (names (left.0 i)) (names (right.0 i)) (left_tree i) (right_tree i) O M.rows N.rows })

  module _ (O M N : Rows) (left : IsOf M (sort_of A)) (right : IsOf N (sort_of B)) (of_sort : IsOf O (sort_of (join kind A B))) where
    pub left_is_of_sort : IsOfSort (over A (left_after kind A B O M N)) (sort_of A)
    left_is_of_sort = (refl, (join_law kind A B typed).put_sort_left O M N left right of_sort)

    pub right_is_of_sort : IsOfSort (over B (right_after kind A B O M N)) (sort_of B)
    right_is_of_sort = (refl, (join_law kind A B typed).put_sort_right O M N left right of_sort)

  -- a put to the left side leaves the tables of the right one
  right_left : (db after : Tables) (S : Rows) → after ≡ put A S db → (t : Name) → set.contains (tables_of B) t ≡ true → finmap.get after t ≡ finmap.get db t
  right_left db after S is t i = ap (λ (K : Tables). finmap.get K t) is ∙ put_leaves A S db t (apart_back (tables_of A) (tables_of B) typed.3 t i)

  pub right_tables : (db after : Tables) (S : Rows) → after ≡ put A S db → AreOf B db → AreOf B after
  right_tables db after S is a = are_same B db after (right_left db after S is) a

  -- and what its sources show
  pub right_sources : (db after : Tables) (S : Rows) (under : Sources) → after ≡ put A S db → AreShown B db under → AreShown B after under
  right_sources db after S under is shown = shown_alike_after B db after under (right_left db after S is) shown

-- a put to a join is the put to its left side, then that to its right side
pub put_joined : (kind : JoinKind) (L A B : Lens) (db after : Tables) (O S T : Rows) (M N : Relation) → join kind A B ≡ L → M ≡ view A db → N ≡ view B db
    → S ≡ left_after kind A B O M.rows N.rows → T ≡ right_after kind A B O M.rows N.rows → after ≡ put A S db → put B T after ≡ put L O db
unfolding put
put_joined kind L A B db after O S T M N is left right s t e =
    let s' : S ≡ left_after kind A B O (get A db) (get B db) = s ∙ (λ i. left_after kind A B O (left i).rows (right i).rows) in
    let t' : T ≡ right_after kind A B O (get A db) (get B db) = t ∙ (λ i. right_after kind A B O (left i).rows (right i).rows) in
    (λ i. put B (t' i) ((e ∙ ap (λ K. put A K db) s') i)) ∙ ap (λ K. put K O db) is
