-- The laws of the joins that delete on the right, or on both sides.
use Rattle.std.proofs.Common.{◌≡◌, true, false, not, List, sym, ap, ◌∙◌, inl, inr, arith}
use Rattle.plain_values.proofs.Common.{cases_Bool, not-true, not_from_false, false_from_ne_true, absurd_false, Row}
use Rattle.lens_laws.proofs.Join.{from_natural, in_natural, left_sort, right_sort, own_left, own_right, view_left, view_right, from_over, in_over, not_over, join_lawful}
use Rattle.fd_laws.proofs.Common.{same_rel, in_those, from_those, in_minus, from_minus, in_project, from_project, meets_fewer}
use Rattle.plain_values.specs.declared.join_kind.JoinKind.{JoinKind}
use Rattle.plain_values.specs.declared.join_kind.JoinKind.TheVariants.{DeleteLeft, DeleteRight, DeleteBoth}
use Rattle.lens_specs.specs.Common.{Fits, names, Edge, Names, join_get, join_left, join_right, join_over, join_put_left, join_put_left_kept, join_put_right, join_left_after, join_right_after, Rows, has, project, cut, join_kept, join_free}
use Rattle.lens_laws.specs.Shapes.{Shape, IsIn, IsLawful2, CanJoin, join_shape}

module _ (s t : Shape) (H : List Edge) (can : CanJoin s t H) where
  abbrev U : Names
  U = names s.columns

  abbrev V : Names
  V = names t.columns

  abbrev both : Shape
  both = join_shape s t H

  from_kept : (O M N : Rows) (w : Row) → has (join_kept U V s.tree t.tree O M N) w ≡ true → has (join_over U V s.tree t.tree O M N) w ≡ true
  unfolding join_kept
  from_kept O M N w i = (from_those (λ w. has (project V O) (cut V w)) _ w i).0

  in_kept : (O M N : Rows) (w : Row) → has (join_over U V s.tree t.tree O M N) w ≡ true → has (project V O) (cut V w) ≡ true → has (join_kept U V s.tree t.tree O M N) w ≡ true
  unfolding join_kept
  in_kept O M N w i h = in_those (λ w. has (project V O) (cut V w)) _ w i h

  from_free : (O M N : Rows) (w : Row) → has (join_free U V s.tree t.tree O M N) w ≡ true → (has (join_over U V s.tree t.tree O M N) w ≡ true) × (has (project V O) (cut V w) ≡ false)
  unfolding join_free
  from_free O M N w i = let v = from_those (λ w. not (has (project V O) (cut V w))) _ w i in (v.0, not-true _ v.1)

  in_free : (O M N : Rows) (w : Row) → has (join_over U V s.tree t.tree O M N) w ≡ true → has (project V O) (cut V w) ≡ false → has (join_free U V s.tree t.tree O M N) w ≡ true
  unfolding join_free
  in_free O M N w i h = in_those (λ w. not (has (project V O) (cut V w))) _ w i (not_from_false _ h)

  from_left_kept : (O M N : Rows) (r : Row) → has (join_put_left_kept U V s.tree t.tree O M N) r ≡ true → (has (join_left U s.tree O M) r ≡ true) × (has (project U (join_kept U V s.tree t.tree O M N)) r ≡ false)
  unfolding join_put_left_kept
  from_left_kept O M N r i = from_minus _ _ r i

  in_left_kept : (O M N : Rows) (r : Row) → has (join_left U s.tree O M) r ≡ true → has (project U (join_kept U V s.tree t.tree O M N)) r ≡ false → has (join_put_left_kept U V s.tree t.tree O M N) r ≡ true
  unfolding join_put_left_kept
  in_left_kept O M N r i z = in_minus _ _ r i z

  from_put_right : (O M N : Rows) (r : Row) → has (join_put_right U V s.tree t.tree O M N) r ≡ true → (has (join_right V t.tree O N) r ≡ true) × (has (project V (join_free U V s.tree t.tree O M N)) r ≡ false)
  unfolding join_put_right
  from_put_right O M N r i = from_minus _ _ r i

  in_put_right : (O M N : Rows) (r : Row) → has (join_right V t.tree O N) r ≡ true → has (project V (join_free U V s.tree t.tree O M N)) r ≡ false → has (join_put_right U V s.tree t.tree O M N) r ≡ true
  unfolding join_put_right
  in_put_right O M N r i z = in_minus _ _ r i z

  -- ---- sorts
  left_kept_sort : (O M N : Rows) → IsIn M s → IsIn N t → IsIn O both → IsIn (join_put_left_kept U V s.tree t.tree O M N) s
  left_kept_sort O M N m n o =
      let p = left_sort s t H can O M m o in
      let sub : (r : Row) → has (join_put_left_kept U V s.tree t.tree O M N) r ≡ true → has (join_left U s.tree O M) r ≡ true = λ r i. (from_left_kept O M N r i).0 in
      record { columns = λ r i. p.columns r (sub r i); holds = λ r i. p.holds r (sub r i); meets = meets_fewer s.tree _ _ sub p.meets }

  put_right_sort : (O M N : Rows) → IsIn M s → IsIn N t → IsIn O both → IsIn (join_put_right U V s.tree t.tree O M N) t
  put_right_sort O M N m n o =
      let p = right_sort s t H can O N n o in
      let sub : (r : Row) → has (join_put_right U V s.tree t.tree O M N) r ≡ true → has (join_right V t.tree O N) r ≡ true = λ r i. (from_put_right O M N r i).0 in
      record { columns = λ r i. p.columns r (sub r i); holds = λ r i. p.holds r (sub r i); meets = meets_fewer t.tree _ _ sub p.meets }

  -- ---- what a row of the view keeps
  not_kept : (O M N : Rows) → IsIn M s → IsIn N t → IsIn O both → (q : Row) → has O q ≡ true → has (project U (join_kept U V s.tree t.tree O M N)) (cut U q) ≡ false
  not_kept O M N m n o q i = false_from_ne_true _ (λ y.
      let w = from_project U _ _ y in
      absurd_false _ (ap (has _) w.2 ∙ in_project U _ w.0 (from_kept O M N w.0 w.1)) (not_over s t H can O M N m n o q i))

  not_free : (O M N : Rows) (q : Row) → has O q ≡ true → has (project V (join_free U V s.tree t.tree O M N)) (cut V q) ≡ false
  not_free O M N q i = false_from_ne_true _ (λ y.
      let w = from_project V _ _ y in
      absurd_false _ (ap (has _) (sym w.2) ∙ in_project V O q i) (from_free O M N w.0 w.1).1)

  -- a row that is joined and that the view lacks has gone on a side
  gone : (O M N : Rows) (w : Row) → has (join_over U V s.tree t.tree O M N) w ≡ true → has (project U (join_kept U V s.tree t.tree O M N)) (cut U w) ≡ false → has (project V (join_free U V s.tree t.tree O M N)) (cut V w) ≡ false → ⊥
  gone O M N w i k f = grind (arith, absurd_false, in_project, in_kept, in_free)

  joined : (O M N : Rows) → IsIn M s → IsIn N t → IsIn O both → (w : Row) → Fits both.columns w → has (join_left U s.tree O M) (cut U w) ≡ true → has (join_right V t.tree O N) (cut V w) ≡ true → has O w ≡ false → has (join_over U V s.tree t.tree O M N) w ≡ true
  joined O M N m n o w h i j z = in_over s t H can O M N w (in_natural s.columns t.columns _ _ (left_sort s t H can O M m o).columns (right_sort s t H can O N n o).columns w h i j) z

  -- ---- deleting on the right
  right_put_get : (O M N : Rows) → IsIn M s → IsIn N t → IsIn O both → join_get U V (join_put_left_kept U V s.tree t.tree O M N) (join_put_right U V s.tree t.tree O M N) ≡ O
  right_put_get O M N m n o =
      let hM = (left_kept_sort O M N m n o).columns in let hN = (put_right_sort O M N m n o).columns in
      same_rel _ O
      (λ w i.
      let nat = from_natural s.columns t.columns _ _ hM hN w i in
      let l = from_left_kept O M N _ nat.0 in let r = from_put_right O M N _ nat.1 in
      elim (cases_Bool (has O w)) [
        | inl y ↦ y
        | inr z ↦ absurd (gone O M N w (joined O M N m n o w nat.2 l.0 r.0 z) l.1 r.1)
      ])
      (λ q i. in_natural s.columns t.columns _ _ hM hN q (o.columns q i)
      (in_left_kept O M N _ (view_left s t H can O M q i) (not_kept O M N m n o q i))
      (in_put_right O M N _ (view_right s t H can O N q i) (not_free O M N q i)))

  -- ---- deleting on both sides
  both_put_get : (O M N : Rows) → IsIn M s → IsIn N t → IsIn O both → join_get U V (join_put_left U V s.tree t.tree O M N) (join_put_right U V s.tree t.tree O M N) ≡ O
  both_put_get O M N m n o =
      let law = join_lawful s t H can in
      let hM = (law.put_sort_left O M N m n o).columns in let hN = (put_right_sort O M N m n o).columns in
      let hR = (right_sort s t H can O N n o).columns in
      same_rel _ O
      -- a join with more rows on the right is the view already
      (λ w i.
      let nat = from_natural s.columns t.columns _ _ hM hN w i in
      ap (λ Z. has Z w) (sym (law.put_get O M N m n o)) ∙ in_natural s.columns t.columns _ _ hM hR w nat.2 nat.0 (from_put_right O M N _ nat.1).0)
      (λ q i.
      let nat = from_natural s.columns t.columns _ _ hM hR q (ap (λ Z. has Z q) (law.put_get O M N m n o) ∙ i) in
      in_natural s.columns t.columns _ _ hM hN q nat.2 nat.0 (in_put_right O M N _ nat.1 (not_free O M N q i)))

  -- ---- putting back
  none_over : (M N : Rows) → IsIn M s → IsIn N t → (w : Row) → has (join_over U V s.tree t.tree (join_get U V M N) M N) w ≡ false
  none_over M N m n w = false_from_ne_true _ (λ i.
      let v = from_over s t H can (join_get U V M N) M N w i in
      absurd_false _ (sym (ap (λ K. has (join_get U V K (join_right V t.tree (join_get U V M N) N)) w) (own_left s t H can M N m n) ∙ ap (λ K. has (join_get U V M K) w) (own_right s t H can M N m n)) ∙ v.0) v.1)

  get_put_kept : (M N : Rows) → IsIn M s → IsIn N t → join_put_left_kept U V s.tree t.tree (join_get U V M N) M N ≡ M
  get_put_kept M N m n =
      let O = join_get U V M N in let e = own_left s t H can M N m n in
      same_rel _ M
      (λ r i. ap (λ K. has K r) (sym e) ∙ (from_left_kept O M N r i).0)
      (λ r i. in_left_kept O M N r (ap (λ K. has K r) e ∙ i) (false_from_ne_true _ (λ y.
      let w = from_project U _ r y in absurd_false _ (from_kept O M N w.0 w.1) (none_over M N m n w.0))))

  get_put_free : (M N : Rows) → IsIn M s → IsIn N t → join_put_right U V s.tree t.tree (join_get U V M N) M N ≡ N
  get_put_free M N m n =
      let O = join_get U V M N in let e = own_right s t H can M N m n in
      same_rel _ N
      (λ r i. ap (λ K. has K r) (sym e) ∙ (from_put_right O M N r i).0)
      (λ r i. in_put_right O M N r (ap (λ K. has K r) e ∙ i) (false_from_ne_true _ (λ y.
      let w = from_project V _ r y in absurd_false _ (from_free O M N w.0 w.1).0 (none_over M N m n w.0))))

  pub join_right_lawful : IsLawful2 s t both (join_get U V) (λ O M N. join_put_left_kept U V s.tree t.tree O M N) (λ O M N. join_put_right U V s.tree t.tree O M N)
  join_right_lawful = record {
    get_sort = (join_lawful s t H can).get_sort;
    put_sort_left = left_kept_sort;
    put_sort_right = put_right_sort;
    put_get = right_put_get;
    get_put_left = get_put_kept;
    get_put_right = get_put_free;
  }

  pub join_both_lawful : IsLawful2 s t both (join_get U V) (λ O M N. join_put_left U V s.tree t.tree O M N) (λ O M N. join_put_right U V s.tree t.tree O M N)
  join_both_lawful = record {
    get_sort = (join_lawful s t H can).get_sort;
    put_sort_left = (join_lawful s t H can).put_sort_left;
    put_sort_right = put_right_sort;
    put_get = both_put_get;
    get_put_left = (join_lawful s t H can).get_put_left;
    get_put_right = get_put_free;
  }

-- for each kind
pub kind_lawful : (kind : JoinKind) (s t : Shape) (H : List Edge) → CanJoin s t H
    → IsLawful2 s t (join_shape s t H) (join_get (names s.columns) (names t.columns)) (λ O M N. join_left_after kind (names s.columns) (names t.columns) s.tree t.tree O M N) (λ O M N. join_right_after kind (names s.columns) (names t.columns) s.tree t.tree O M N)
kind_lawful DeleteLeft s t H can = join_lawful s t H can
kind_lawful DeleteRight s t H can = join_right_lawful s t H can
kind_lawful DeleteBoth s t H can = join_both_lawful s t H can
