-- An edit of a join that deletes on the right, or on both sides, does to the sources what recomputing does.
use Rattle.std.proofs.Common.{◌≡◌, Bool, true, false, not, List, sym, ap, ◌∙◌, inl, inr, arith}
use Rattle.plain_values.proofs.Common.{cases_Bool, and_parts, and_from, not-true, not_from_false, false_from_ne_true, eq_by_cmp, row_cmp, Row, any_at, any_from, absurd_false}
use Rattle.plain_values.specs.SortedSet as set
use Rattle.plain_values.specs.declared.join_kind.JoinKind.{JoinKind}
use Rattle.lens_laws.proofs.Deltas.{from_new_view, in_new_view_kept, in_found_each, from_found_each, merge_delta_is, diff_leads}
use Rattle.lens_laws.proofs.Join.{cut_left, cut_right, from_natural, natural_paste, left_sort, right_sort, part_left, from_over, in_over}
use Rattle.lens_laws.proofs.JoinDelta.{join_delta_right_is, join_delta_left_is, split_left, sub_left, from_suspects, in_suspects}
use Rattle.fd_laws.proofs.Common.{same_rel, in_those, from_those, in_union_left, in_union_right, from_union, in_minus, from_minus, in_project, from_project, in_join, tied_row, row_itself, agree_back}
use Rattle.lens_specs.specs.Common.{names, Delta, diff, new_view, Applies, Edge, Names, join_get, join_left, join_right, join_over, join_put_left_kept, join_put_right, join_left_after, join_right_after, Rows, has, those, union, minus, project, agree, paste, cut, join_kept, join_free}
use Rattle.lens_laws.specs.JoinKinds.{is_kept, is_free, less_delta, join_delta_left_kept, join_delta_right_free, left_delta, right_delta}
use Rattle.lens_laws.specs.KeyedDeltas.{merge_delta, join_delta_right, suspects, is_over}
use Rattle.lens_laws.specs.Shapes.{Shape, IsIn, CanJoin, join_shape}

-- from the difference to M0, the one to M0 less X: the test finds X among the rows of M0, and the suspects are rows of M with all that stay and pass it
less_delta_is : (M M0 X suspected : Rows) (test : Row → Bool) → ((r : Row) → has M0 r ≡ true → test r ≡ true → has X r ≡ true) → ((r : Row) → has X r ≡ true → test r ≡ true)
    → ((r : Row) → has suspected r ≡ true → has M r ≡ true) → ((r : Row) → has M r ≡ true → test r ≡ true → has suspected r ≡ true)
    → less_delta test suspected (diff M M0) ≡ diff M (minus M0 X)
unfolding diff
less_delta_is M M0 X suspected test to from in_source all =
    let new = minus M0 X in
    let removed : union (minus M M0) (those test suspected) ≡ minus M new = same_rel _ _
    (λ r i. elim (from_union (minus M M0) _ r i) [
      | inl j ↦ let w = from_minus M M0 r j in in_minus M new r w.0 (false_from_ne_true _ (λ k. absurd_false _ (from_minus M0 X r k).0 w.1))
      | inr j ↦ let w = from_those test _ r j in in_minus M new r (in_source r w.0) (false_from_ne_true _ (λ k. let v = from_minus M0 X r k in absurd_false _ (to r v.0 w.1) v.1))
    ])
    (λ r i. let w = from_minus M new r i in elim (cases_Bool (has M0 r)) [
      | inr z ↦ in_union_left _ _ r (in_minus M M0 r w.0 z)
      | inl y ↦ in_union_right _ _ r (elim (cases_Bool (has X r)) [
        | inl x ↦ let h = from r x in in_those test _ r (all r w.0 h) h
        | inr z ↦ absurd_false _ (in_minus M0 X r y z) w.1
      ])
    ]) in
    let added : those (λ r. not (test r)) (minus M0 M) ≡ minus new M = same_rel _ _
    (λ r i. let w = from_those (λ r. not (test r)) _ r i in let v = from_minus M0 M r w.0 in
    in_minus new M r (in_minus M0 X r v.0 (false_from_ne_true _ (λ k. absurd_false _ (from r k) (not-true _ w.1)))) v.1)
    (λ r i. let w = from_minus new M r i in let v = from_minus M0 X r w.0 in
    in_those (λ r. not (test r)) _ r (in_minus M0 M r v.0 w.1) (not_from_false _ (false_from_ne_true _ (λ k. absurd_false _ (to r v.0 k) v.1)))) in
    λ i. record { remove = removed i; add = added i }

module _ (s t : Shape) (H : List Edge) (can : CanJoin s t H) (M N : Rows) (d : Delta) (m : IsIn M s) (n : IsIn N t)
    (applies : Applies d (join_get (names s.columns) (names t.columns) M N)) (o : IsIn (new_view (join_get (names s.columns) (names t.columns) M N) d) (join_shape s t H)) where
  abbrev U : Names
  U = names s.columns

  abbrev V : Names
  V = names t.columns

  abbrev S : Names
  S = set.intersection (names s.columns) (names t.columns)

  abbrev J : Rows
  J = join_get (names s.columns) (names t.columns) M N

  abbrev O : Rows
  O = new_view (join_get (names s.columns) (names t.columns) M N) d

  abbrev left : Delta
  left = merge_delta s.tree M (project (names s.columns) d.add)

  abbrev right : Delta
  right = join_delta_right (names t.columns) t.tree N d

  abbrev M0 : Rows
  M0 = join_left (names s.columns) s.tree (new_view (join_get (names s.columns) (names t.columns) M N) d) M

  abbrev N1 : Rows
  N1 = join_right (names t.columns) t.tree (new_view (join_get (names s.columns) (names t.columns) M N) d) N

  left_is : left ≡ diff M M0
  unfolding join_left
  left_is = merge_delta_is s.tree M (project U O) (project U d.add) can.tree_left m.meets (part_left s t H can O o).meets (split_left s t H can M N d m n applies o) (sub_left s t H can M N d m n applies o)

  new_left : new_view M left ≡ M0
  new_left = ap (new_view M) left_is ∙ diff_leads M M0

  right_is : right ≡ diff N N1
  right_is = join_delta_right_is s t H can M N d m n applies o

  new_right : new_view N right ≡ N1
  new_right = ap (new_view N) right_is ∙ diff_leads N N1

  -- ---- rows joined too much, by their parts
  abbrev over : Rows
  over = join_over (names s.columns) (names t.columns) s.tree t.tree (new_view (join_get (names s.columns) (names t.columns) M N) d) M N

  pub pair_over : (r q : Row) → has M0 r ≡ true → has N1 q ≡ true → agree S r q ≡ true → has O (paste r V q) ≡ false
      → (has over (paste r V q) ≡ true) × (cut U (paste r V q) ≡ r) × (cut V (paste r V q) ≡ q)
  unfolding join_get
  pair_over r q i j g z =
      let hM = (left_sort s t H can O M m o).columns in let hN = (right_sort s t H can O N n o).columns in (
        in_over s t H can O M N (paste r V q) (in_join S V M0 N1 r q i j g) z,
        cut_left s.columns t.columns M0 N1 hM hN r q i j g,
        cut_right s.columns t.columns M0 N1 hM hN r q i j,
      )

  pub over_pair : (w : Row) → has over w ≡ true → (has M0 (cut U w) ≡ true) × (has N1 (cut V w) ≡ true) × (agree S (cut U w) (cut V w) ≡ true) × (has O (paste (cut U w) V (cut V w)) ≡ false)
  over_pair w i =
      let hM = (left_sort s t H can O M m o).columns in let hN = (right_sort s t H can O N n o).columns in
      let v = from_over s t H can O M N w i in
      let nat = from_natural s.columns t.columns M0 N1 hM hN w v.0 in
      let p = natural_paste s.columns t.columns M0 N1 hM hN w v.0 in
      (nat.0, nat.1, p.1, ap (has O) p.0 ∙ v.1)

  -- ---- the left source
  abbrev kept : Row → Bool
  kept = is_kept S V (new_view N right) O

  kept_by : (r : Row) → kept r ≡ true → (q : Row) × (has N1 q ≡ true) × (agree S r q ≡ true) × (has O (paste r V q) ≡ false) × (has (project V O) q ≡ true)
  unfolding is_kept
  kept_by r h =
      let w = any_from (eq_by_cmp row_cmp) tied_row row_itself _ (set.items (those (agree S r) (new_view N right))) h in
      let v = from_those (agree S r) (new_view N right) w.0 (set.contains-items _ w.0 ∙ w.1) in
      let b = and_parts _ _ w.2 in
      (w.0, ap (λ K. has K w.0) (sym new_right) ∙ v.0, v.1, not-true _ b.0, b.1)

  is_kept_by : (r q : Row) → has N1 q ≡ true → agree S r q ≡ true → has O (paste r V q) ≡ false → has (project V O) q ≡ true → kept r ≡ true
  unfolding is_kept
  is_kept_by r q i g z k = any_at (eq_by_cmp row_cmp) tied_row row_itself _ (set.items (those (agree S r) (new_view N right))) q
      (sym (set.contains-items _ q) ∙ in_those (agree S r) (new_view N right) q (ap (λ K. has K q) new_right ∙ i) g) (and_from _ _ (not_from_false _ z) k)

  kept_over : (r : Row) → kept r ≡ true → is_over S V (new_view N right) O r ≡ true
  unfolding is_over
  kept_over r h =
      let w = kept_by r h in
      any_at (eq_by_cmp row_cmp) tied_row row_itself _ (set.items (those (agree S r) (new_view N right))) w.0
      (sym (set.contains-items _ w.0) ∙ in_those (agree S r) (new_view N right) w.0 (ap (λ K. has K w.0) new_right ∙ w.1) w.2) (not_from_false _ w.3)

  kept_to : (r : Row) → has M0 r ≡ true → kept r ≡ true → has (project U (join_kept U V s.tree t.tree O M N)) r ≡ true
  unfolding join_kept
  kept_to r i h =
      let w = kept_by r h in let p = pair_over r w.0 i w.1 w.2 w.3 in
      ap (has _) (sym p.1) ∙ in_project U _ _ (in_those (λ w. has (project V O) (cut V w)) over _ p.0 (ap (has (project V O)) p.2 ∙ w.4))

  kept_from : (r : Row) → has (project U (join_kept U V s.tree t.tree O M N)) r ≡ true → kept r ≡ true
  unfolding join_kept
  kept_from r i =
      let w = from_project U _ r i in
      let v = from_those (λ w. has (project V O) (cut V w)) over w.0 w.1 in
      let p = over_pair w.0 v.0 in
      ap kept w.2 ∙ is_kept_by (cut U w.0) (cut V w.0) p.1 p.2 p.3 v.1

  pub left_kept_is : join_delta_left_kept U V s.tree t.tree M N O d ≡ diff M (join_put_left_kept U V s.tree t.tree O M N)
  unfolding join_delta_left_kept join_put_left_kept
  left_kept_is = ap (less_delta kept (suspects S U M d right.add)) left_is
      ∙ less_delta_is M M0 (project U (join_kept U V s.tree t.tree O M N)) (suspects S U M d right.add) kept kept_to kept_from
      (from_suspects s t H can M N d m n applies o) (λ r i h. in_suspects s t H can M N d m n applies o r i (kept_over r h))

  -- ---- the right source
  abbrev free : Row → Bool
  free = is_free S V (new_view M left) O

  free_by : (q : Row) → free q ≡ true → (r : Row) × (has (new_view M left) r ≡ true) × (agree S r q ≡ true) × (has O (paste r V q) ≡ false) × (has (project V O) q ≡ false)
  unfolding is_free
  free_by q h =
      let b = and_parts _ _ h in
      let w = any_from (eq_by_cmp row_cmp) tied_row row_itself _ (set.items (those (agree S q) (new_view M left))) b.0 in
      let v = from_those (agree S q) (new_view M left) w.0 (set.contains-items _ w.0 ∙ w.1) in
      (w.0, v.0, agree_back S q w.0 v.1, not-true _ w.2, not-true _ b.1)

  is_free_by : (r q : Row) → has M0 r ≡ true → agree S r q ≡ true → has O (paste r V q) ≡ false → has (project V O) q ≡ false → free q ≡ true
  unfolding is_free
  is_free_by r q i g z k = and_from _ _ (any_at (eq_by_cmp row_cmp) tied_row row_itself _ (set.items (those (agree S q) (new_view M left))) r
      (sym (set.contains-items _ r) ∙ in_those (agree S q) (new_view M left) r (ap (λ K. has K r) new_left ∙ i) (agree_back S r q g)) (not_from_false _ z)) (not_from_false _ k)

  free_to : (q : Row) → has N1 q ≡ true → free q ≡ true → has (project V (join_free U V s.tree t.tree O M N)) q ≡ true
  unfolding join_free
  free_to q j h =
      let w = free_by q h in let p = pair_over w.0 q (ap (λ K. has K w.0) (sym new_left) ∙ w.1) j w.2 w.3 in
      ap (has _) (sym p.2) ∙ in_project V _ _ (in_those (λ w. not (has (project V O) (cut V w))) over _ p.0 (not_from_false _ (ap (has (project V O)) p.2 ∙ w.4)))

  free_from : (q : Row) → has (project V (join_free U V s.tree t.tree O M N)) q ≡ true → free q ≡ true
  unfolding join_free
  free_from q i =
      let w = from_project V _ q i in
      let v = from_those (λ w. not (has (project V O) (cut V w))) over w.0 w.1 in
      let p = over_pair w.0 v.0 in
      ap free w.2 ∙ is_free_by (cut U w.0) (cut V w.0) p.0 p.2 p.3 (not-true _ v.1)

  from_right_suspects : (q : Row) → has (suspects S V N d left.add) q ≡ true → has N q ≡ true
  unfolding suspects
  from_right_suspects q i = grind (arith, from_union, from_project, from_natural, from_found_each)

  in_right_suspects : (q : Row) → has N q ≡ true → free q ≡ true → has (suspects S V N d left.add) q ≡ true
  unfolding suspects join_get
  in_right_suspects q i h =
      let w = free_by q h in
      elim (from_new_view M left w.0 w.1) [
        | inr y ↦ in_union_right _ _ q (in_found_each S N _ w.0 q (sym (set.contains-items _ w.0) ∙ y) i w.2)
        | inl y ↦
            let j : has J (paste w.0 V q) ≡ true = in_join S V M N w.0 q y.0 i w.2 in
            in_union_left _ _ q (elim (cases_Bool (has d.remove (paste w.0 V q))) [
              | inl z ↦ ap (has _) (sym (cut_right s.columns t.columns M N m.columns n.columns w.0 q y.0 i)) ∙ in_project V d.remove _ z
              | inr z ↦ absurd_false _ (in_new_view_kept J d _ j z) w.3
            ])
      ]

  pub right_free_is : join_delta_right_free U V s.tree t.tree M N O d ≡ diff N (join_put_right U V s.tree t.tree O M N)
  unfolding join_delta_right_free join_put_right
  right_free_is = ap (less_delta free (suspects S V N d left.add)) right_is
      ∙ less_delta_is N N1 (project V (join_free U V s.tree t.tree O M N)) (suspects S V N d left.add) free free_to free_from from_right_suspects in_right_suspects

-- ---- for each kind
pub left_delta_is : (kind : JoinKind) (s t : Shape) (H : List Edge) → CanJoin s t H → (M N : Rows) (d : Delta) → IsIn M s → IsIn N t
    → Applies d (join_get (names s.columns) (names t.columns) M N) → IsIn (new_view (join_get (names s.columns) (names t.columns) M N) d) (join_shape s t H)
    → left_delta kind (names s.columns) (names t.columns) s.tree t.tree M N (new_view (join_get (names s.columns) (names t.columns) M N) d) d
    ≡ diff M (join_left_after kind (names s.columns) (names t.columns) s.tree t.tree (new_view (join_get (names s.columns) (names t.columns) M N) d) M N)
left_delta_is kind s t H can M N d m n applies o = grind (arith, join_delta_left_is, left_kept_is)

pub right_delta_is : (kind : JoinKind) (s t : Shape) (H : List Edge) → CanJoin s t H → (M N : Rows) (d : Delta) → IsIn M s → IsIn N t
    → Applies d (join_get (names s.columns) (names t.columns) M N) → IsIn (new_view (join_get (names s.columns) (names t.columns) M N) d) (join_shape s t H)
    → right_delta kind (names s.columns) (names t.columns) s.tree t.tree M N (new_view (join_get (names s.columns) (names t.columns) M N) d) d
    ≡ diff N (join_right_after kind (names s.columns) (names t.columns) s.tree t.tree (new_view (join_get (names s.columns) (names t.columns) M N) d) M N)
right_delta_is kind s t H can M N d m n applies o = grind (arith, join_delta_right_is, right_free_is)
