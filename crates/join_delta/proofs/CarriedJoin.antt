-- An edit of a join, carried down to both sources.
use Rattle.std.proofs.Common.{◌≡◌, List, ◌++◌, length, refl, sym, ap, ◌∙◌, subst, true, false, inl, inr, arith}
use Rattle.plain_values.proofs.Common.{cases_Bool, not-true, not_from_false, false_from_ne_true, eq_by_cmp, row_cmp, Row, absurd_false, any_at}
use Rattle.plain_values.specs.SortedSet as set
use Rattle.lens_specs.specs.Common.{Columns, Fits, names, Applies, Delta, diff, new_view, AllEdges, Edge, Meets, MeetsTree, Names, Within, join_get, join_left, join_over, join_put_left, join_right, IsRelation, Relation, Rows, has, minus, project, those, union, agree, cut, paste}
use Rattle.lens_laws.proofs.Common.{join_delta_right, merge_delta, suspects, touched, CanJoin, IsIn, Shape, join_shape, diff_leads, from_found_each, from_touched, in_new_view_added, from_natural, natural_paste, part_left, parts_fit}
use Rattle.lens_laws.specs.KeyedDeltas.{is_over, join_delta_left}
use Rattle.fd_laws.proofs.Common.{EdgesWithin, IsTree, closure_is, from_minus, from_project, from_those, from_union, in_join, in_minus, in_those, in_union_left, in_union_right, same_rel, sets, row_itself, tied_row, all_append, each_edge, implies_sound, from_join, append_parts}
use Rattle.lens_laws.proofs.Deltas.{merge_adds, merge_delta_is}
use Rattle.lens_laws.proofs.Join.{from_over, in_over, in_put_left, left_sort, not_over, right_sort, view_left}
use Rattle.lens_laws.proofs.JoinDelta.{from_suspects, in_suspects, join_delta_left_is, join_delta_right_is, split_left, sub_left}
use Rattle.lens_laws.proofs.JoinKindDeltas.{over_pair}
use Rattle.signed_delta.specs.Disjoint.{AreApart}
use Rattle.signed_delta.proofs.Differences.{sides_apart}
use Rattle.revision.proofs.Runs.{revised_fit}
use Rattle.join_delta.proofs.OnePartner.{decided_keyed}
use Rattle.join_delta.proofs.NoRows.{minus_none}
use Rattle.join_delta.specs.Joined.{AreJoined, AreKeyed, CanBeJoined, CanEdit, edited, joined, shared_names}

-- the sides of a difference have no row in common
pub apart : (M N remove add : Rows) → ◌≡◌ {A = Delta} (record { remove = remove; add = add }) (diff M N) → AreApart remove add
unfolding diff
apart M N remove add is r i =
    ap (λ d. has d.add r) is ∙ sides_apart M N r (ap (λ d. has d.remove r) (sym is) ∙ i)

pub diff_apart : (M N : Rows) (d : Delta) → d ≡ diff M N → AreApart d.remove d.add
diff_apart M N d is = apart M N d.remove d.add is

-- the left sides of edges within the columns
pub lefts_within : (U : Names) (T : List Edge) → EdgesWithin U T → AllEdges (λ e. Within e.left U) T
lefts_within U T = each_edge (λ e. Within e.left U × Within e.right U) (λ e. Within e.left U) (λ e w. w.0) T

-- what a merge adds has the columns
pub merge_fits : (U : Columns) (T : List Edge) (M A : Rows) → ((m : Row) → has M m ≡ true → Fits U m) → ((a : Row) → has A a ≡ true → Fits U a)
    → (r : Row) → has (merge_delta T M A).add r ≡ true → Fits U r
unfolding merge_delta
merge_fits U T M A fit new r i = elim (from_union _ (minus A M) r i) [
  | inl j ↦ revised_fit U T (touched T M A) A new (λ m k. fit m (from_touched T M A m k).0) r j
  | inr j ↦ new r (from_minus A M r j).0
]

is_over_by : (S V : Names) (N O : Rows) (r n : Row) → has N n ≡ true → agree S r n ≡ true → has O (paste r V n) ≡ false → is_over S V N O r ≡ true
unfolding is_over
is_over_by S V N O r n i g z = any_at (eq_by_cmp row_cmp) tied_row row_itself _ (set.items (those (agree S r) N)) n (sym (set.contains-items _ n) ∙ in_those (agree S r) N n i g) (not_from_false _ z)

-- the left rows that are tested: the suspects that the merge leaves, and what it adds beside the parts of added rows
abbrev pub tested : Relation → Relation → List Edge → List Edge → Delta → Rows
tested A B F G d = union
    (minus (suspects (shared_names A.columns B.columns) (names A.columns) A.rows d (join_delta_right (names B.columns) G B.rows d).add) (merge_delta F A.rows (project (names A.columns) d.add)).remove)
    (minus (merge_delta F A.rows (project (names A.columns) d.add)).add (project (names A.columns) d.add))

-- two sources of a join with their trees, and an edit of it
pub record IsJoinEdit (A B : Relation) (F G : List Edge) (d : Delta) : Type 0 where
  pub can : CanBeJoined A.columns B.columns F G
  pub fit_left : IsRelation A
  pub fit_right : IsRelation B
  pub tree_left : IsTree F
  pub tree_right : IsTree G
  pub left_meets : MeetsTree A.rows F
  pub right_meets : MeetsTree B.rows G
  pub applies : Applies d (joined A B)
  pub view : AreJoined A.columns B.columns F G (edited A B d)

pub join_edit : {K L : List Names} {A B : Relation} {F G : List Edge} {d : Delta} → CanEdit K L A B F G d → IsRelation A → IsRelation B → IsTree F → IsTree G → IsJoinEdit A B F G d
join_edit p fit_left fit_right tree_left tree_right = record {
  can = p.can;
  fit_left = fit_left;
  fit_right = fit_right;
  tree_left = tree_left;
  tree_right = tree_right;
  left_meets = p.left_meets;
  right_meets = p.right_meets;
  applies = p.applies;
  view = p.view;
}

-- the parts of added rows have the columns
pub left_parts_fit : {K L : List Names} {A B : Relation} {F G : List Edge} {d : Delta} → CanEdit K L A B F G d → (r : Row) → has (project (names A.columns) d.add) r ≡ true → Fits A.columns r
unfolding cut
left_parts_fit {A = A} {B = B} {d = d} p r i =
    let w = from_project (names A.columns) d.add r i in
    subst (Fits A.columns) (sym w.2) (parts_fit A.columns B.columns p.can.kinds w.0 (p.view.columns w.0 (in_new_view_added (joined A B) d w.0 w.1))).0

pub right_parts_fit : {K L : List Names} {A B : Relation} {F G : List Edge} {d : Delta} → CanEdit K L A B F G d → (r : Row) → has (project (names B.columns) d.add) r ≡ true → Fits B.columns r
unfolding cut
right_parts_fit {A = A} {B = B} {d = d} p r i =
    let w = from_project (names B.columns) d.add r i in
    subst (Fits B.columns) (sym w.2) (parts_fit A.columns B.columns p.can.kinds w.0 (p.view.columns w.0 (in_new_view_added (joined A B) d w.0 w.1))).1

module _ {A B : Relation} {F G : List Edge} {d : Delta} (q : IsJoinEdit A B F G d) where
  abbrev U : Names
  U = names A.columns

  abbrev V : Names
  V = names B.columns

  abbrev S : Names
  S = shared_names A.columns B.columns

  abbrev s : Shape
  s = record { columns = A.columns; holds = λ _. true; tree = F }

  abbrev t : Shape
  t = record { columns = B.columns; holds = λ _. true; tree = G }

  -- both sources after the merge
  abbrev pub merged_left : Rows
  merged_left = join_left (names A.columns) F (edited A B d) A.rows

  abbrev pub merged_right : Rows
  merged_right = join_right (names B.columns) G (edited A B d) B.rows

  pub passes : CanJoin s t (F ++ G)
  passes = record {
    kinds = q.can.kinds;
    tree_left = q.tree_left;
    tree_right = q.tree_right;
    within_left = q.can.within_left;
    within_right = q.can.within_right;
    sees_left = λ a b h. refl;
    sees_right = λ a b h. refl;
    keeps_left = λ M L h k r i. refl;
    keeps_right = λ M L h k r i. refl;
    splits = λ O h. append_parts (λ e. Meets O e.left e.right) F G h;
    joins = λ O f g. all_append (λ e. Meets O e.left e.right) F G f g;
    decides = λ N m. implies_sound S V _ G N (closure_is S G) q.can.decides m;
  }

  pub of_left : IsIn A.rows s
  of_left = record { columns = q.fit_left; holds = λ r i. refl; meets = q.left_meets }

  pub of_right : IsIn B.rows t
  of_right = record { columns = q.fit_right; holds = λ r i. refl; meets = q.right_meets }

  pub of_view : IsIn (edited A B d) (join_shape s t (F ++ G))
  of_view = record { columns = q.view.columns; holds = λ r i. refl; meets = all_append (λ e. Meets (edited A B d) e.left e.right) F G q.view.left q.view.right }

  pub suspects_fit : (added : Rows) (r : Row) → has (suspects S U A.rows d added) r ≡ true → Fits A.columns r
  unfolding suspects
  suspects_fit added r i = elim (from_union (project U d.remove) _ r i) [
    | inl j ↦ let w = from_project U d.remove r j in
        q.fit_left r (ap (has A.rows) w.2 ∙ (from_natural A.columns B.columns A.rows B.rows q.fit_left q.fit_right w.0 (q.applies.removes w.0 w.1)).0)
    | inr j ↦ q.fit_left r (from_found_each S A.rows _ r j)
  ]

  pub right_is : join_delta_right V G B.rows d ≡ diff B.rows merged_right
  right_is = join_delta_right_is s t (F ++ G) passes A.rows B.rows d of_left of_right q.applies of_view

  -- the shared columns tell apart the rows of the new right source
  pub right_keyed : AreKeyed S (new_view B.rows (join_delta_right V G B.rows d))
  right_keyed =
      let made = ap (new_view B.rows) right_is ∙ diff_leads B.rows merged_right in
      let sort = right_sort s t (F ++ G) passes (edited A B d) B.rows of_right of_view in
      subst (AreKeyed S) (sym made) (decided_keyed S B.columns merged_right sort.columns (passes.decides merged_right sort.meets))

  pub left_is : join_delta_left U V F G A.rows B.rows (edited A B d) d ≡ diff A.rows (join_put_left (names A.columns) (names B.columns) F G (edited A B d) A.rows B.rows)
  left_is = join_delta_left_is s t (F ++ G) passes A.rows B.rows d of_left of_right q.applies of_view

  -- what the edit adds to the left source
  abbrev come : Rows
  come = (merge_delta F A.rows (project U d.add)).add

  come_apart : (r : Row) → has come r ≡ true → has A.rows r ≡ false
  come_apart r i =
      (merge_adds F A.rows (project U (edited A B d)) (project U d.add) q.tree_left q.left_meets
      (part_left s t (F ++ G) passes (edited A B d) of_view).meets
      (split_left s t (F ++ G) passes A.rows B.rows d of_left of_right q.applies of_view)
      (sub_left s t (F ++ G) passes A.rows B.rows d of_left of_right q.applies of_view) r i).1

  -- an added row's part is not over
  parts_stay : (r : Row) → has come r ≡ true → has (project U d.add) r ≡ true → is_over S V (new_view B.rows (join_delta_right V G B.rows d)) (edited A B d) r ≡ false
  unfolding join_delta_left diff
  parts_stay r i j =
      let O = edited A B d in
      let new = join_put_left U V F G O A.rows B.rows in
      let w = from_project U d.add r j in
      let there = in_new_view_added (joined A B) d w.0 w.1 in
      let kept : has new r ≡ true = ap (has new) w.2 ∙ in_put_left s t (F ++ G) passes O A.rows B.rows (cut U w.0)
      (view_left s t (F ++ G) passes O A.rows w.0 there) (not_over s t (F ++ G) passes O A.rows B.rows of_left of_right of_view w.0 there) in
      let added = ap (λ (x : Delta). has x.add r) left_is ∙ in_minus new A.rows r kept (come_apart r i) in
      not-true _ (from_those _ come r added).1

  pub left_merges : merge_delta F A.rows (project U d.add) ≡ diff A.rows merged_left
  unfolding join_left
  left_merges =
      merge_delta_is F A.rows (project U (edited A B d)) (project U d.add) q.tree_left q.left_meets
      (part_left s t (F ++ G) passes (edited A B d) of_view).meets
      (split_left s t (F ++ G) passes A.rows B.rows d of_left of_right q.applies of_view)
      (sub_left s t (F ++ G) passes A.rows B.rows d of_left of_right q.applies of_view)

  abbrev new_right : Rows
  new_right = new_view B.rows (join_delta_right (names B.columns) G B.rows d)

  right_merges : new_right ≡ merged_right
  right_merges = ap (new_view B.rows) right_is ∙ diff_leads B.rows merged_right

  abbrev gone : Rows
  gone = (merge_delta F A.rows (project U d.add)).remove

  -- what is tested is merged
  from_tested : (r : Row) → has (tested A B F G d) r ≡ true → has merged_left r ≡ true
  unfolding diff
  from_tested r i = elim (from_union (minus (suspects S U A.rows d (join_delta_right V G B.rows d).add) gone) (minus come (project U d.add)) r i) [
    | inl j ↦
        let w = from_minus (suspects S U A.rows d (join_delta_right V G B.rows d).add) gone r j in
        let there = from_suspects s t (F ++ G) passes A.rows B.rows d of_left of_right q.applies of_view r w.0 in
        elim (cases_Bool (has merged_left r)) [
          | inl y ↦ y
          | inr z ↦ absurd_false _ (ap (λ (x : Delta). has x.remove r) left_merges ∙ in_minus A.rows merged_left r there z) w.1
        ]
    | inr j ↦
        let w = from_minus come (project U d.add) r j in
        (from_minus merged_left A.rows r (ap (λ (x : Delta). has x.add r) (sym left_merges) ∙ w.0)).0
  ]

  -- a merged row that is over is tested
  in_tested : (r : Row) → has merged_left r ≡ true → is_over S V new_right (edited A B d) r ≡ true → has (tested A B F G d) r ≡ true
  unfolding diff
  in_tested r i h = elim (cases_Bool (has A.rows r)) [
    | inl y ↦ in_union_left (minus (suspects S U A.rows d (join_delta_right V G B.rows d).add) gone) (minus come (project U d.add)) r
        (in_minus (suspects S U A.rows d (join_delta_right V G B.rows d).add) gone r
        (in_suspects s t (F ++ G) passes A.rows B.rows d of_left of_right q.applies of_view r y h)
        (false_from_ne_true _ (λ k. absurd_false _ i (from_minus A.rows merged_left r (ap (λ (x : Delta). has x.remove r) (sym left_merges) ∙ k)).1)))
    | inr z ↦
        let new : has come r ≡ true = ap (λ (x : Delta). has x.add r) left_merges ∙ in_minus merged_left A.rows r i z in
        in_union_right (minus (suspects S U A.rows d (join_delta_right V G B.rows d).add) gone) (minus come (project U d.add)) r
        (in_minus come (project U d.add) r new (false_from_ne_true _ (λ k. absurd_false _ h (parts_stay r new k))))
  ]

  -- the rows that are joined too much are those of the tested rows
  pub surplus_is : minus (join_get U V (tested A B F G d) new_right) (edited A B d) ≡ join_over U V F G (edited A B d) A.rows B.rows
  unfolding join_get
  surplus_is =
      let O = edited A B d in
      same_rel _ _
      (λ w i.
      let v = from_minus (join_get U V (tested A B F G d) new_right) O w i in
      let p = from_join S V (tested A B F G d) new_right w v.0 in
      in_over s t (F ++ G) passes O A.rows B.rows w
      (ap (has (join_get U V merged_left merged_right)) p.5 ∙ in_join S V merged_left merged_right p.0 p.1 (from_tested p.0 p.2) (ap (λ M. has M p.1) (sym right_merges) ∙ p.3) p.4) v.1)
      (λ w i.
      let v = from_over s t (F ++ G) passes O A.rows B.rows w i in
      let hM = (left_sort s t (F ++ G) passes O A.rows of_left of_view).columns in
      let hN = (right_sort s t (F ++ G) passes O B.rows of_right of_view).columns in
      let nat = from_natural A.columns B.columns merged_left merged_right hM hN w v.0 in
      let p = natural_paste A.columns B.columns merged_left merged_right hM hN w v.0 in
      let new : has new_right (cut V w) ≡ true = ap (λ M. has M (cut V w)) right_merges ∙ nat.1 in
      let over : is_over S V new_right O (cut U w) ≡ true = is_over_by S V new_right O (cut U w) (cut V w) new p.1 (ap (has O) p.0 ∙ v.1) in
      in_minus (join_get U V (tested A B F G d) new_right) O w
      (ap (has (join_get U V (tested A B F G d) new_right)) (sym p.0) ∙ in_join S V (tested A B F G d) new_right (cut U w) (cut V w) (in_tested (cut U w) nat.0 over) new p.1) v.1)

  -- their left parts are merged rows
  pub over_left : (r : Row) → has (project U (join_over U V F G (edited A B d) A.rows B.rows)) r ≡ true → has merged_left r ≡ true
  over_left r i =
      let w = from_project U (join_over U V F G (edited A B d) A.rows B.rows) r i in
      ap (has merged_left) w.2 ∙ (over_pair s t (F ++ G) passes A.rows B.rows d of_left of_right q.applies of_view w.0 w.1).0

  -- and so are their right parts
  pub over_right : (w : Row) → has (join_over U V F G (edited A B d) A.rows B.rows) w ≡ true → has merged_right (cut V w) ≡ true
  over_right w i = (over_pair s t (F ++ G) passes A.rows B.rows d of_left of_right q.applies of_view w i).1

-- the surplus, from what the code makes one after the other
module _ (A B : Relation) (F G : List Edge) (d right merged : Delta) (suspect own some over : Rows) where
  pub surplus_made : right ≡ join_delta_right (names B.columns) G B.rows d → merged ≡ merge_delta F A.rows (project (names A.columns) d.add)
      → own ≡ project (names A.columns) d.add → suspect ≡ suspects (shared_names A.columns B.columns) (names A.columns) A.rows d right.add
      → some ≡ union (minus suspect merged.remove) (minus merged.add own)
      → over ≡ minus (join_get (names A.columns) (names B.columns) some (new_view B.rows right)) (edited A B d)
      → over ≡ minus (join_get (names A.columns) (names B.columns) (tested A B F G d) (new_view B.rows (join_delta_right (names B.columns) G B.rows d))) (edited A B d)
  surplus_made changes merges owns suspects_are somes overs =
      let suspects_is : suspect ≡ suspects (shared_names A.columns B.columns) (names A.columns) A.rows d (join_delta_right (names B.columns) G B.rows d).add =
      suspects_are ∙ (λ i. suspects (shared_names A.columns B.columns) (names A.columns) A.rows d (changes i).add) in
      let some_is : some ≡ tested A B F G d = somes ∙ (λ i. union (minus (suspects_is i) (merges i).remove) (minus (merges i).add (owns i))) in
      overs ∙ (λ i. minus (join_get (names A.columns) (names B.columns) (some_is i) (new_view B.rows (changes i))) (edited A B d))

-- ---- fewer rows than a change leads to

-- the change to fewer rows, from its parts
pub fewer : (M N X : Rows) (c : Delta) (remove add : Rows) → c ≡ diff M N → ((r : Row) → has X r ≡ true → has N r ≡ true)
    → remove ≡ union c.remove (minus X c.add) → add ≡ minus c.add X → ◌≡◌ {A = Delta} (record { remove = remove; add = add }) (diff M (minus N X))
unfolding diff
fewer M N X c remove add is sub removes adds =
    let gone : union (minus M N) (minus X (minus N M)) ≡ minus M (minus N X) = same_rel _ _ (λ r i. grind (arith, sets, sub r)) (λ r i. grind (arith, sets, sub r)) in
    let come : minus (minus N M) X ≡ minus (minus N X) M = same_rel _ _ (λ r i. grind (arith, sets)) (λ r i. grind (arith, sets)) in
    let removed : remove ≡ minus M (minus N X) = removes ∙ (λ i. union (is i).remove (minus X (is i).add)) ∙ gone in
    let added : add ≡ minus (minus N X) M = adds ∙ (λ i. minus (is i).add X) ∙ come in
    λ i. record { remove = removed i; add = added i }

-- no row is on both of its sides
pub fewer_apart : (X : Rows) (c : Delta) (remove add : Rows) → AreApart c.remove c.add → remove ≡ union c.remove (minus X c.add) → add ≡ minus c.add X → AreApart remove add
fewer_apart X c remove add both removes adds r i = ap (λ M. has M r) adds ∙ false_from_ne_true _ (λ k.
    let v = from_minus c.add X r k in
    elim (from_union c.remove (minus X c.add) r (ap (λ M. has M r) (sym removes) ∙ i)) [
      | inl j ↦ absurd_false _ v.0 (both r j)
      | inr j ↦ absurd_false _ (from_minus X c.add r j).0 v.1
    ])

-- fewer by no rows
pub not_fewer : (M N X : Rows) (c : Delta) → length (set.items X) ≡ 0 → c ≡ diff M N → c ≡ diff M (minus N X)
not_fewer M N X c none is = is ∙ ap (diff M) (sym (minus_none N X none))
