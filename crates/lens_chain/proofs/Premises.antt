-- What the nodes ask of an edit and of their sources, and what they hand down.
use Rattle.std.proofs.Common.{◌≡◌, true, false, List, [], ◌∷◌, ap, ◌∙◌, subst, sym, Ok}
use Rattle.plain_values.proofs.Common.{and_parts, false_from_ne_true, Contains-append_right, Contains, Row, absurd_false}
use Rattle.plain_values.specs.SortedSet as set
use Rattle.plain_values.specs.declared.value.Value.{Value}
use Rattle.lens_specs.specs.Common.{Fits, both_columns, without_column, Applies, Delta, diff, new_view, AllEdges, Edge, Meets, MeetsTree, Lens, Tables, select, drop, rename, get, select_sort, drop_sort, rename_sort, join_sort, sort_of, view_names, Name, Names, Within, one, drop_get, drop_put, join_get, join_left_after, join_right_after, rename_get, rename_put, select_get, select_put, Predicate, holds, without_name, Rows, has, image, renamed_names, renamed_row, agree, IsOf, Sort, join}
use Rattle.plain_values.specs.declared.join_kind.JoinKind.{JoinKind}
use Rattle.lens_specs.specs.Typing as typing
use Rattle.fd_laws.proofs.Common.{EdgesWithin, name_itself, one_is, agree_at, agree_from, each_edge, at_edge}
use Rattle.lens_laws.proofs.Common.{HasKeys, IsFilled, keys_at, left_sides, IsOver, left_delta, right_delta, drop_delta, select_delta, AreOf, IsTyped, rename_delta, IsIn, join_shape, shape_of, contains_head, contains_map, contains_tail, keyed, diff_applies, diff_leads, in_new_view_added, drop_delta_is, get_sort, fits_is_over, both_can, drop_law, join_law, rename_can, rename_node_law, select_law, sound, join_sort_is, not_old, names-renamed, given_is, select_delta_is, clash_none, to_in}
use Rattle.lens_laws.specs.Passes.{alone_at}
use Rattle.lens_laws.specs.Shapes.{select_shape}
use Rattle.lens_laws.proofs.JoinKindDeltas.{left_delta_is, right_delta_is}
use Rattle.lens_laws.proofs.NodeLaws.{drop_can}
use Rattle.lens_laws.proofs.Passes.{select_sort_is}
use Rattle.lens_laws.proofs.Rename.{rename_delta_is}
use Rattle.lens_laws.proofs.RenameSorts.{rename_sort_is}
use Rattle.signed_delta.specs.Disjoint.{AreApart}
use Rattle.signed_delta.proofs.Differences.{sides_apart}
use Rattle.lens_chain.specs.Edits.{IsEdit, edited}

-- ---- any view

-- a difference to rows of the sort is an edit
edit_of : (L : Lens) (db : Tables) (d : Delta) (N : Rows) → d ≡ diff (get L db) N → IsOf N (sort_of L) → IsEdit L db d
edit_of L db d N is of_sort =
    subst (IsEdit L db) (sym is) (diff_applies (get L db) N, subst (λ M. IsOf M (sort_of L)) (sym (diff_leads (get L db) N)) of_sort)

each_left : (T : List Edge) (K : List Names) → ((e : Edge) → Contains T e → Contains K e.left) → AllEdges (λ e. Contains K e.left) T
each_left [] K h = tt
each_left (e ∷ es) K h = (h e (contains_head e es), each_left es K (λ k i. h k (contains_tail k e es i)))

-- it may be asked by the left sides of its tree
pub edges_asked : (L : Lens) (K : List Names) → AllEdges (λ e. Contains (keys_at L K) e.left) (sort_of L).tree
edges_asked L K =
    let T = (sort_of L).tree in
    each_left T (keys_at L K) (λ e i. Contains-append_right K (left_sides T) e.left (contains_map (λ e. e.left) T e i))

-- the sort that the rules give it is its own
pub sort_is : (L M : Lens) (s : Sort) → IsTyped L → M ≡ L → typing.sort M ≡ Ok s → s ≡ sort_of L
sort_is L M s typed same given = given_is L s typed (ap typing.sort (sym same) ∙ given)

-- and so is its tree
pub tree_is : (L M : Lens) (s : Sort) (T : List Edge) → IsTyped L → M ≡ L → typing.sort M ≡ Ok s → T ≡ s.tree → T ≡ (sort_of L).tree
tree_is L M s T typed same given is = is ∙ ap (λ (k : Sort). k.tree) (sort_is L M s typed same given)

pub edges_within : (L : Lens) → IsTyped L → EdgesWithin (view_names L) (sort_of L).tree
edges_within L typed = (sound L typed).within

pub lefts_within : (L : Lens) → IsTyped L → AllEdges (λ e. Within e.left (view_names L)) (sort_of L).tree
lefts_within L typed = each_edge (λ e. Within e.left (view_names L) × Within e.right (view_names L)) (λ e. Within e.left (view_names L)) (λ e w. w.0) (sort_of L).tree (edges_within L typed)

pub meets_tree : (L : Lens) (db : Tables) → IsTyped L → AreOf L db → MeetsTree (get L db) (sort_of L).tree
meets_tree L db typed are = clash_none (sort_of L).tree (get L db) (get_sort L db typed are).clash

-- ---- a selection

module _ (P : Predicate) (C : Lens) (db : Tables) (d : Delta) (typed : IsTyped (select P C)) (are : AreOf C db) (edit : IsEdit (select P C) db d) where
  -- the view after the edit, and the source after the put
  abbrev some : Rows
  some = new_view (select_get (holds P) (get C db)) d

  abbrev unselected : Rows
  unselected = select_put (sort_of C).tree (holds P) some (get C db)

  in_selected : IsIn some (select_shape (shape_of (sort_of C)) (holds P))
  unfolding get
  in_selected = subst (IsIn some) (select_sort_is (sort_of C) P) (to_in some (select_sort (sort_of C) P) edit.1)

  pub select_applies : Applies d (select_get (holds P) (get C db))
  unfolding get
  select_applies = edit.0

  pub select_view : IsIn some (record { columns = (sort_of C).columns; holds = holds P; tree = (sort_of C).tree })
  select_view = let w = in_selected in record { columns = w.columns; holds = λ r i. (and_parts _ _ (w.holds r i)).1; meets = w.meets }

  pub select_carried : (change : Delta) → change ≡ diff (get C db) unselected → (change ≡ select_delta (sort_of C).tree (holds P) (get C db) d) × IsEdit C db change
  unfolding get select_get
  select_carried change is =
      let s = sort_of C in
      let M = get C db in
      let m = get_sort C db typed.0 are in (
        is ∙ sym (select_delta_is (shape_of s) (holds P) (sound C typed.0).tree M d (to_in M s m) edit.0 in_selected),
        edit_of C db change unselected is ((select_law P C typed).put_sort some M m edit.1),
      )

-- ---- a relation without one of its columns

module _ (A : Name) (X : Names) (a : Value) (C : Lens) (typed : IsTyped (drop A X a C)) where
  -- what holds of the edge that decides the column
  at_from : (Q : Edge → Type 0) → AllEdges Q (sort_of C).tree → Q typed.1.from
  at_from Q all = at_edge Q (sort_of C).tree typed.1.from typed.1.among all

  pub drop_some : HasKeys C → IsFilled X
  drop_some keys = subst IsFilled typed.1.left (at_from (λ e. IsFilled e.left) (keyed C typed.0 keys).1)

  pub drop_within : Within X (view_names C)
  drop_within = subst (λ Z. Within Z (view_names C)) typed.1.left (at_from (λ e. Within e.left (view_names C)) (lefts_within C typed.0))

  pub drop_apart : set.contains X A ≡ false
  drop_apart = subst (λ Z. set.contains Z A ≡ false) typed.1.left (at_from (λ e. set.contains e.left A ≡ false) typed.1.lefts)

  pub drop_decides : (db : Tables) → AreOf C db → Meets (get C db) X (one A)
  drop_decides db are r s there there' alike =
      let met = at_from (λ e. Meets (get C db) e.left e.right) (meets_tree C db typed.0 are) in
      let right = met r s there there' (ap (λ Z. agree Z r s) typed.1.left ∙ alike) in
      agree_from (one A) r s (λ c i. agree_at typed.1.from.right r s right c (ap (set.contains typed.1.from.right) (one_is A c i) ∙ typed.1.right))

  module _ (db : Tables) (d : Delta) (are : AreOf C db) (edit : IsEdit (drop A X a C) db d) where
    pub drop_applies : Applies d (drop_get (view_names C) A (get C db))
    unfolding get
    drop_applies = edit.0

    pub drop_fit : (r : Row) → has d.add r ≡ true → Fits (without_column (sort_of C).columns A) r
    drop_fit r i = edit.1.columns r (in_new_view_added (get (drop A X a C) db) d r i)

    -- the view after the edit, and the source after the put
    abbrev rest : Rows
    rest = new_view (drop_get (view_names C) A (get C db)) d

    abbrev undropped : Rows
    undropped = drop_put A X a rest (get C db)

    pub drop_carried : (change : Delta) → change ≡ diff (get C db) undropped → (change ≡ drop_delta A X a (get C db) d) × IsEdit C db change
    unfolding get
    drop_carried change is =
        let s = sort_of C in
        let M = get C db in
        let m = get_sort C db typed.0 are in (
          is ∙ sym (drop_delta_is (shape_of s) A X a (holds (without_name A s.predicate)) (alone_at A s.predicate) (sound C typed.0).tree (drop_can A X a C typed) M d (to_in M s m) edit.0 (to_in rest (drop_sort s A) edit.1)),
          edit_of C db change undropped is ((drop_law A X a C typed).put_sort rest M m edit.1),
        )

-- ---- a relation with a new name for a column

module _ (A B : Name) (C : Lens) (typed : IsTyped (rename A B C)) where
  -- the columns of the view
  shown_names : view_names (rename A B C) ≡ renamed_names A B (view_names C)
  shown_names = names-renamed A B (sort_of C).columns typed.1.column typed.1.free

  -- none of which has the old name
  pub old_is_free : (D : Names) → D ≡ renamed_names A B (view_names C) → set.contains D A ≡ false
  old_is_free D is = false_from_ne_true _ (λ i.
      absurd_false _ (name_itself A) (not_old (shape_of (sort_of C)) A B (rename_can A B C typed) A (subst (λ Z. set.contains Z A ≡ true) is i)))

  module _ (db : Tables) (d : Delta) (are : AreOf C db) (edit : IsEdit (rename A B C) db d) where
    fits_over : (D : Names) (r : Row) → D ≡ renamed_names A B (view_names C) → Fits (sort_of (rename A B C)).columns r → IsOver D r
    fits_over D r is fits = subst (λ Z. IsOver Z r) (shown_names ∙ sym is) (fits_is_over (sort_of (rename A B C)).columns r fits)

    -- the rows of the edit have just these columns
    pub removed_over : (D : Names) → D ≡ renamed_names A B (view_names C) → (r : Row) → has d.remove r ≡ true → IsOver D r
    removed_over D is r i = fits_over D r is ((get_sort (rename A B C) db typed are).columns r (edit.0.removes r i))

    pub added_over : (D : Names) → D ≡ renamed_names A B (view_names C) → (r : Row) → has d.add r ≡ true → IsOver D r
    added_over D is r i = fits_over D r is (edit.1.columns r (in_new_view_added (get (rename A B C) db) d r i))

    -- the view after the edit, and the source after the put
    abbrev named_new : Rows
    named_new = new_view (rename_get A B (get C db)) d

    abbrev named_old : Rows
    named_old = rename_put A B named_new

    rename_is : rename_delta A B d ≡ diff (get C db) named_old
    unfolding get
    rename_is =
        let s = sort_of C in
        rename_delta_is (shape_of s) A B (rename_can A B C typed) (get C db) d (to_in (get C db) s (get_sort C db typed.0 are)) edit.0
        (subst (IsIn named_new) (rename_sort_is s A B (sound C typed.0) typed.1.column typed.1.free) (to_in named_new (rename_sort s A B) edit.1))

    -- its renamed sides have no row in common
    pub renamed_apart : (remove add : Rows) → remove ≡ image (renamed_row B A) d.remove → add ≡ image (renamed_row B A) d.add → AreApart remove add
    unfolding rename_delta rename_put diff
    renamed_apart remove add gone come =
        let sides : AreApart (rename_put A B d.remove) (rename_put A B d.add) = subst (λ (e : Delta). AreApart e.remove e.add) (sym rename_is) (sides_apart (get C db) named_old) in
        subst (λ M. AreApart M add) (sym gone) (subst (λ N. AreApart (image (renamed_row B A) d.remove) N) (sym come) sides)

    -- and are what an edit of the source does
    pub rename_carried : (remove add : Rows) (change : Delta) → remove ≡ image (renamed_row B A) d.remove → add ≡ image (renamed_row B A) d.add → change ≡ record { remove = remove; add = add }
        → (change ≡ rename_delta A B d) × IsEdit C db change
    unfolding rename_delta rename_put get
    rename_carried remove add change gone come is =
        let made : change ≡ rename_delta A B d = is ∙ (λ i. record { remove = gone i; add = come i }) in (
          made,
          edit_of C db change named_old (made ∙ rename_is) ((rename_node_law A B C typed).put_sort named_new (get C db) (get_sort C db typed.0 are) edit.1),
        )

-- ---- a join

module _ (kind : JoinKind) (A B : Lens) (typed : IsTyped (join kind A B)) (db : Tables) (d : Delta) (are : AreOf A db × AreOf B db) (edit : IsEdit (join kind A B) db d) where
  -- the view after the edit, and the sources after the put
  abbrev both : Rows
  both = new_view (join_get (view_names A) (view_names B) (get A db) (get B db)) d

  abbrev left_put : Rows
  left_put = join_left_after kind (view_names A) (view_names B) (sort_of A).tree (sort_of B).tree both (get A db) (get B db)

  abbrev right_put : Rows
  right_put = join_right_after kind (view_names A) (view_names B) (sort_of A).tree (sort_of B).tree both (get A db) (get B db)

  pub join_applies : Applies d (join_get (view_names A) (view_names B) (get A db) (get B db))
  unfolding get
  join_applies = edit.0

  pub join_fit : (r : Row) → has both r ≡ true → Fits (both_columns (sort_of A).columns (sort_of B).columns) r
  unfolding get
  join_fit = edit.1.columns

  pub join_meets : MeetsTree both (sort_of A).tree × MeetsTree both (sort_of B).tree
  unfolding get
  join_meets = (both_can kind A B typed).splits both (clash_none (sort_of (join kind A B)).tree both edit.1.clash)

  in_joined : IsIn both (join_shape (shape_of (sort_of A)) (shape_of (sort_of B)) (sort_of (join kind A B)).tree)
  unfolding get
  in_joined = subst (IsIn both) (join_sort_is (sort_of A) (sort_of B)) (to_in both (join_sort (sort_of A) (sort_of B)) edit.1)

  pub join_carried_left : (change : Delta) → change ≡ diff (get A db) left_put
      → (change ≡ left_delta kind (view_names A) (view_names B) (sort_of A).tree (sort_of B).tree (get A db) (get B db) (edited (join kind A B) db d) d) × IsEdit A db change
  unfolding get
  join_carried_left change is =
      let s = sort_of A in let t = sort_of B in
      let m = get_sort A db typed.0 are.0 in
      let n = get_sort B db typed.1 are.1 in (
        is ∙ sym (left_delta_is kind (shape_of s) (shape_of t) (join_sort s t).tree (both_can kind A B typed) (get A db) (get B db) d (to_in (get A db) s m) (to_in (get B db) t n) edit.0 in_joined),
        edit_of A db change left_put is ((join_law kind A B typed).put_sort_left both (get A db) (get B db) m n edit.1),
      )

  pub join_carried_right : (change : Delta) → change ≡ diff (get B db) right_put
      → (change ≡ right_delta kind (view_names A) (view_names B) (sort_of A).tree (sort_of B).tree (get A db) (get B db) (edited (join kind A B) db d) d) × IsEdit B db change
  unfolding get
  join_carried_right change is =
      let s = sort_of A in let t = sort_of B in
      let m = get_sort A db typed.0 are.0 in
      let n = get_sort B db typed.1 are.1 in (
        is ∙ sym (right_delta_is kind (shape_of s) (shape_of t) (join_sort s t).tree (both_can kind A B typed) (get A db) (get B db) d (to_in (get A db) s m) (to_in (get B db) t n) edit.0 in_joined),
        edit_of B db change right_put is ((join_law kind A B typed).put_sort_right both (get A db) (get B db) m n edit.1),
      )
