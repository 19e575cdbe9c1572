-- An edit of a join, carried down to both sources by the side on which the join deletes.
use Rattle.std.proofs.Common.{◌≡◌, ◌≤◌, ◌*◌, ◌∷◌, ℕ, List, ◌++◌, length, not, sym, ap, ◌∙◌, refl, subst, true, false, inl, inr}
use Rattle.plain_values.proofs.Common.{cases_Bool, not-true, not_from_false, false_from_ne_true, restrict, row_cmp, Row, absurd_false}
use Rattle.plain_values.specs.SortedSet as set
use Rattle.plain_values.specs.declared.join_kind.JoinKind.{JoinKind}
use Rattle.plain_values.specs.declared.join_kind.JoinKind.TheVariants.{DeleteBoth, DeleteLeft, DeleteRight}
use Rattle.lens_specs.specs.Common.{names, Applies, Delta, diff, new_view, Edge, Names, join_left_after, join_over, join_put_left, join_put_left_kept, join_put_right, join_right, join_right_after, Relation, Rows, has, minus, project, those, cut, join_free, join_kept}
use Rattle.lens_laws.specs.JoinKinds.{join_delta_left_kept, join_delta_right_free}
use Rattle.lens_laws.proofs.Common.{left_sides, Shape, GivesAtMost, rows_down, rows_of, diff_applies, diff_leads}
use Rattle.lens_laws.proofs.DeltaCounts.{left_delta_small, left_kept_small, right_delta_small, right_free_small}
use Rattle.lens_laws.proofs.JoinKindDeltas.{left_kept_is, right_free_is}
use Rattle.fd_laws.proofs.Common.{from_minus, from_project, from_those, in_minus, in_project, in_those, same_rel}
use Rattle.join_delta.specs.Joined.{edited, shared_names}
use Rattle.join_delta.specs.Deleted.{left_deleted, right_deleted}
use Rattle.join_delta.proofs.CarriedJoin.{IsJoinEdit, left_is, merged_left, merged_right, of_left, of_right, of_view, over_left, over_right, passes, right_is}

-- ---- what is joined too much, by whether the view has the right part
module _ (U V : Names) (F G : List Edge) (O M N : Rows) where
  abbrev over : Rows
  over = join_over U V F G O M N

  -- right parts that the view lacks
  pub free_is : minus (project V (join_over U V F G O M N)) (project V O) ≡ project V (join_free U V F G O M N)
  unfolding join_free
  free_is = same_rel _ _
      (λ q i.
      let v = from_minus (project V over) (project V O) q i in
      let w = from_project V over q v.0 in
      ap (has (project V (those (λ r. not (has (project V O) (cut V r))) over))) w.2
      ∙ in_project V (those (λ r. not (has (project V O) (cut V r))) over) w.0
      (in_those (λ r. not (has (project V O) (cut V r))) over w.0 w.1 (not_from_false _ (ap (has (project V O)) (sym w.2) ∙ v.1))))
      (λ q i.
      let w = from_project V (those (λ r. not (has (project V O) (cut V r))) over) q i in
      let v = from_those (λ r. not (has (project V O) (cut V r))) over w.0 w.1 in
      in_minus (project V over) (project V O) q (ap (has (project V over)) w.2 ∙ in_project V over w.0 v.0) (ap (has (project V O)) w.2 ∙ not-true _ v.1))

  -- the others
  pub kept_is : (free : Rows) → free ≡ minus (project V (join_over U V F G O M N)) (project V O)
      → those (λ w. not (has free (restrict V w))) (join_over U V F G O M N) ≡ join_kept U V F G O M N
  unfolding join_kept cut
  kept_is free is = same_rel _ _
      (λ w i.
      let v = from_those (λ r. not (has free (restrict V r))) over w i in
      elim (cases_Bool (has (project V O) (cut V w))) [
        | inl y ↦ in_those (λ r. has (project V O) (cut V r)) over w v.0 y
        | inr z ↦ absurd_false _ (ap (λ X. has X (cut V w)) is ∙ in_minus (project V over) (project V O) (cut V w) (in_project V over w v.0) z) (not-true _ v.1)
      ])
      (λ w i.
      let v = from_those (λ r. has (project V O) (cut V r)) over w i in
      in_those (λ r. not (has free (restrict V r))) over w v.0
      (not_from_false _ (false_from_ne_true _ (λ h. absurd_false _ v.1 (from_minus (project V over) (project V O) (cut V w) (ap (λ X. has X (cut V w)) (sym is) ∙ h)).1))))

-- the left parts are the same beside the right ones that the kind deletes
pub left_beside : (k : JoinKind) (C D : Names) (pairs free : Rows) → left_deleted k C D pairs (right_deleted k free) ≡ left_deleted k C D pairs free
left_beside DeleteLeft C D pairs free = refl
left_beside DeleteRight C D pairs free = refl
left_beside DeleteBoth C D pairs free = refl

-- ---- the edit of two sources
module _ {A B : Relation} {F G : List Edge} {d : Delta} (q : IsJoinEdit A B F G d) where
  abbrev U : Names
  U = names A.columns

  abbrev V : Names
  V = names B.columns

  abbrev s : Shape
  s = record { columns = A.columns; holds = λ _. true; tree = F }

  abbrev t : Shape
  t = record { columns = B.columns; holds = λ _. true; tree = G }

  -- the kept left parts are merged rows
  pub kept_left : (r : Row) → has (project U (join_kept U V F G (edited A B d) A.rows B.rows)) r ≡ true
      → has (merged_left q) r ≡ true
  unfolding join_kept
  kept_left r i =
      let w = from_project U (those (λ x. has (project V (edited A B d)) (cut V x)) (join_over U V F G (edited A B d) A.rows B.rows)) r i in
      let v = from_those (λ x. has (project V (edited A B d)) (cut V x)) (join_over U V F G (edited A B d) A.rows B.rows) w.0 w.1 in
      over_left q r
      (ap (has (project U (join_over U V F G (edited A B d) A.rows B.rows))) w.2 ∙ in_project U (join_over U V F G (edited A B d) A.rows B.rows) w.0 v.0)

  -- and so are the free right ones
  pub free_right : (n : Row) → has (project V (join_free U V F G (edited A B d) A.rows B.rows)) n ≡ true
      → has (merged_right q) n ≡ true
  unfolding join_free
  free_right n i =
      let w = from_project V (those (λ x. not (has (project V (edited A B d)) (cut V x))) (join_over U V F G (edited A B d) A.rows B.rows)) n i in
      let v = from_those (λ x. not (has (project V (edited A B d)) (cut V x))) (join_over U V F G (edited A B d) A.rows B.rows) w.0 w.1 in
      ap (has (merged_right q)) w.2
      ∙ over_right q w.0 v.0

  -- ---- what is asked of the merge
  pub none_added : (right : Delta) → right ≡ diff B.rows (merged_right q)
      → (q : Row) → has right.add q ≡ true → has B.rows q ≡ false
  none_added right is =
      (subst (λ x. Applies x B.rows) (sym is) (diff_applies B.rows (merged_right q))).adds

  pub over_there : (right : Delta) (found : Rows) → right ≡ diff B.rows (merged_right q)
      → found ≡ join_over U V F G (edited A B d) A.rows B.rows → (w : Row) → has found w ≡ true → has (new_view B.rows right) (restrict V w) ≡ true
  unfolding cut
  over_there right found is same w i =
      let new = ap (new_view B.rows) is ∙ diff_leads B.rows (merged_right q) in
      ap (λ X. has X (cut V w)) new
      ∙ over_right q w (ap (λ X. has X w) (sym same) ∙ i)

  -- ---- the laws of lens_laws, which are of any shapes
  pub kept_delta : join_delta_left_kept U V F G A.rows B.rows (edited A B d) d ≡ diff A.rows (join_put_left_kept U V F G (edited A B d) A.rows B.rows)
  kept_delta = left_kept_is s t (F ++ G) (passes q) A.rows B.rows d
      (of_left q) (of_right q)
      q.applies (of_view q)

  pub free_delta : join_delta_right_free U V F G A.rows B.rows (edited A B d) d ≡ diff B.rows (join_put_right U V F G (edited A B d) A.rows B.rows)
  free_delta = right_free_is s t (F ++ G) (passes q) A.rows B.rows d
      (of_left q) (of_right q)
      q.applies (of_view q)

  -- ---- by the side on which the join deletes
  abbrev over_of : Rows
  over_of = join_over U V F G (edited A B d) A.rows B.rows

  -- the right parts that the edited view lacks
  abbrev pub freed : Rows
  freed = minus (project (names B.columns) (join_over (names A.columns) (names B.columns) F G (edited A B d) A.rows B.rows)) (project (names B.columns) (edited A B d))

  pub left_without : (k : JoinKind) (gone : Rows) → gone ≡ left_deleted k U V over_of freed
      → minus (merged_left q) gone ≡ join_left_after k U V F G (edited A B d) A.rows B.rows
  unfolding join_put_left join_put_left_kept
  left_without DeleteLeft gone is = ap (minus (merged_left q)) is
  left_without DeleteRight gone is = ap (minus (merged_left q)) (is ∙ ap (project U) (kept_is U V F G (edited A B d) A.rows B.rows freed refl))
  left_without DeleteBoth gone is = ap (minus (merged_left q)) is

  pub left_there : (k : JoinKind) (gone : Rows) → gone ≡ left_deleted k U V over_of freed → (r : Row) → has gone r ≡ true → has (merged_left q) r ≡ true
  left_there DeleteLeft gone is r i = over_left q r (ap (λ M. has M r) (sym is) ∙ i)
  left_there DeleteRight gone is r i =
      kept_left r (ap (λ M. has M r) (sym (is ∙ ap (project U) (kept_is U V F G (edited A B d) A.rows B.rows freed refl))) ∙ i)
  left_there DeleteBoth gone is r i = over_left q r (ap (λ M. has M r) (sym is) ∙ i)

  pub right_without : (k : JoinKind) (gone : Rows) → gone ≡ right_deleted k freed → minus (merged_right q) gone ≡ join_right_after k U V F G (edited A B d) A.rows B.rows
  unfolding join_put_right
  right_without DeleteLeft gone is =
      same_rel _ (merged_right q) (λ r i. (from_minus (merged_right q) gone r i).0)
      (λ r i. in_minus (merged_right q) gone r i (ap (λ X. has X r) is ∙ set.contains-empty row_cmp r))
  right_without DeleteRight gone is = ap (minus (merged_right q)) (is ∙ free_is U V F G (edited A B d) A.rows B.rows)
  right_without DeleteBoth gone is = ap (minus (merged_right q)) (is ∙ free_is U V F G (edited A B d) A.rows B.rows)

  free_there : (gone : Rows) → gone ≡ freed → (r : Row) → has gone r ≡ true → has (merged_right q) r ≡ true
  free_there gone is r i = free_right r (ap (λ M. has M r) (sym (is ∙ free_is U V F G (edited A B d) A.rows B.rows)) ∙ i)

  pub right_there : (k : JoinKind) (gone : Rows) → gone ≡ right_deleted k freed → (r : Row) → has gone r ≡ true → has (merged_right q) r ≡ true
  right_there DeleteLeft gone is r i = absurd_false _ i (ap (λ X. has X r) is ∙ set.contains-empty row_cmp r)
  right_there DeleteRight gone is r i = free_there gone is r i
  right_there DeleteBoth gone is r i = free_there gone is r i

  -- ---- how many rows change, where a and b bound one question on the left and on the right
  module _ (a b : ℕ) (edges : length F ≤ 64) (more : length G ≤ 64) (some_a : 1 ≤ a) (some_b : 1 ≤ b)
      (gives_left : GivesAtMost a (shared_names A.columns B.columns ∷ left_sides F) A.rows) (gives_right : GivesAtMost b (shared_names A.columns B.columns ∷ left_sides G) B.rows)
      (edges_left : GivesAtMost a (left_sides F) A.rows) (edges_right : GivesAtMost b (left_sides G) B.rows) where
    few_by_left : rows_of (diff A.rows (join_put_left U V F G (edited A B d) A.rows B.rows)) ≤ rows_down (rows_of d) (2 * a * b)
    few_by_left =
        subst (λ (x : Delta). rows_of x ≤ rows_down (rows_of d) (2 * a * b)) (left_is q)
        (left_delta_small U V F G A.rows B.rows (edited A B d) d a b edges more some_a some_b gives_left edges_right)

    few_by_right : rows_of (diff B.rows (join_put_right U V F G (edited A B d) A.rows B.rows)) ≤ rows_down (rows_of d) (2 * a * b)
    few_by_right =
        subst (λ (x : Delta). rows_of x ≤ rows_down (rows_of d) (2 * a * b)) free_delta
        (right_free_small U V F G A.rows B.rows (edited A B d) d a b edges more some_a some_b edges_left gives_right)

    pub left_few : (k : JoinKind) → rows_of (diff A.rows (join_left_after k U V F G (edited A B d) A.rows B.rows)) ≤ rows_down (rows_of d) (2 * a * b)
    left_few DeleteLeft = few_by_left
    left_few DeleteRight =
        subst (λ (x : Delta). rows_of x ≤ rows_down (rows_of d) (2 * a * b)) kept_delta
        (left_kept_small U V F G A.rows B.rows (edited A B d) d a b edges more some_a some_b gives_left edges_right)
    left_few DeleteBoth = few_by_left

    -- the right source merged alone
    few_merged : rows_of (diff B.rows (join_right V G (edited A B d) B.rows)) ≤ rows_down (rows_of d) (2 * a * b)
    few_merged =
        subst (λ (x : Delta). rows_of x ≤ rows_down (rows_of d) (2 * a * b)) (right_is q)
        (right_delta_small V G B.rows d a b more some_a some_b edges_right)

    pub right_few : (k : JoinKind) → rows_of (diff B.rows (join_right_after k U V F G (edited A B d) A.rows B.rows)) ≤ rows_down (rows_of d) (2 * a * b)
    right_few DeleteLeft = few_merged
    right_few DeleteRight = few_by_right
    right_few DeleteBoth = few_by_right
