-- A join and its put.
use Rattle.std.proofs.Common.{◌≡◌, Bool, List, ◌++◌, true, not, refl, ap, ◌∙◌}
use Rattle.plain_values.proofs.Common.{not-true, not_from_false, false_from_ne_true, Row, absurd_false}
use Rattle.plain_values.specs.declared.join_kind.JoinKind.{JoinKind}
use Rattle.plain_values.specs.declared.join_kind.JoinKind.TheVariants.{DeleteLeft, DeleteRight, DeleteBoth}
use Rattle.lens_specs.specs.Common.{Fits, both_columns, names, Edge, Meets, MeetsTree, Names, join_get, join_left, join_over, join_right, join_put_left, join_put_left_kept, join_put_right, join_left_after, join_right_after, IsRelation, Relation, Rows, has, minus, project, those, merge, cut, join_kept, join_free}
use Rattle.fd_laws.proofs.Common.{IsTree, closure_is, same_rel, in_project, in_minus, from_minus, in_those, from_those, agree_back, agree-cut, all_append, implies_sound, append_parts}
use Rattle.lens_laws.proofs.Common.{CanJoin, IsIn, Shape, join_shape, one_kind}
use Rattle.lens_laws.proofs.JoinKinds.{kind_lawful}
use Rattle.whole_put.specs.Joinable.{CanBePut, shared_names}
use Rattle.lens_laws.proofs.Join.{cut_meets}
use Rattle.whole_put.specs.Lost.{kept_of, left_without, right_without, surplus_of}

-- ---- the values that the body computes in turn

same_others : (p : Row → Bool) (W : Rows) → minus W (those p W) ≡ those (λ w. not (p w)) W
same_others p W = same_rel _ _
    (λ w i. let v = from_minus W (those p W) w i in in_those (λ w. not (p w)) W w v.0 (not_from_false _ (false_from_ne_true _ (λ t. absurd_false _ (in_those p W w v.0 t) v.1))))
    (λ w i. let v = from_those (λ w. not (p w)) W w i in in_minus W (those p W) w v.0 (false_from_ne_true _ (λ j. absurd_false _ (from_those p W w j).1 (not-true _ v.1))))

left_by_kind : (kind : JoinKind) (U V : Names) (F G : List Edge) (O M N : Rows)
    → left_without kind U (join_over U V F G O M N) (those (λ w. has (project V O) (cut V w)) (join_over U V F G O M N)) (join_left U F O M) ≡ join_left_after kind U V F G O M N
unfolding join_put_left join_put_left_kept join_kept
left_by_kind DeleteLeft U V F G O M N = refl
left_by_kind DeleteRight U V F G O M N = refl
left_by_kind DeleteBoth U V F G O M N = refl

right_by_kind : (kind : JoinKind) (U V : Names) (F G : List Edge) (O M N : Rows)
    → right_without kind V (join_over U V F G O M N) (those (λ w. has (project V O) (cut V w)) (join_over U V F G O M N)) (join_right V G O N) ≡ join_right_after kind U V F G O M N
unfolding join_put_right join_free
right_by_kind DeleteLeft U V F G O M N = refl
right_by_kind DeleteRight U V F G O M N = ap (λ W. minus (join_right V G O N) (project V W)) (same_others (λ w. has (project V O) (cut V w)) (join_over U V F G O M N))
right_by_kind DeleteBoth U V F G O M N = ap (λ W. minus (join_right V G O N) (project V W)) (same_others (λ w. has (project V O) (cut V w)) (join_over U V F G O M N))

module _ (kind : JoinKind) (A B : Relation) (F G : List Edge) (view left_part right_part merged merged_right new_left new_right : Relation)
    (is_left_part : left_part ≡ record { columns = A.columns; rows = project (names A.columns) view.rows })
    (is_right_part : right_part ≡ record { columns = B.columns; rows = project (names B.columns) view.rows })
    (is_merged : merged ≡ record A { rows = merge F A.rows left_part.rows }) (is_merged_right : merged_right ≡ record B { rows = merge G B.rows right_part.rows })
    (is_new_left : new_left ≡ (let over = surplus_of merged merged_right view.rows in record merged { rows = left_without kind (names merged.columns) over (kept_of right_part over) merged.rows }))
    (is_new_right : new_right ≡ (let over = surplus_of merged merged_right view.rows in record merged_right { rows = right_without kind (names merged_right.columns) over (kept_of right_part over) merged_right.rows })) where
  left_merged : merged ≡ record A { rows = join_left (names A.columns) F view.rows A.rows }
  unfolding join_left
  left_merged = is_merged ∙ ap (λ (R : Relation). record A { rows = merge F A.rows R.rows }) is_left_part

  right_merged : merged_right ≡ record B { rows = join_right (names B.columns) G view.rows B.rows }
  unfolding join_right
  right_merged = is_merged_right ∙ ap (λ (R : Relation). record B { rows = merge G B.rows R.rows }) is_right_part

  over_rows : surplus_of merged merged_right view.rows ≡ join_over (names A.columns) (names B.columns) F G view.rows A.rows B.rows
  unfolding join_over
  over_rows = λ i. surplus_of (left_merged i) (right_merged i) view.rows

  kept_rows : kept_of right_part (surplus_of merged merged_right view.rows) ≡ those (λ w. has (project (names B.columns) view.rows) (cut (names B.columns) w)) (join_over (names A.columns) (names B.columns) F G view.rows A.rows B.rows)
  kept_rows = λ i. kept_of (is_right_part i) (over_rows i)

  pub left_made : new_left ≡ record A { rows = join_left_after kind (names A.columns) (names B.columns) F G view.rows A.rows B.rows }
  left_made = is_new_left ∙ (λ i. record { columns = (left_merged i).columns; rows = left_without kind (names (left_merged i).columns) (over_rows i) (kept_rows i) (left_merged i).rows })
      ∙ ap (λ R. record A { rows = R }) (left_by_kind kind (names A.columns) (names B.columns) F G view.rows A.rows B.rows)

  pub right_made : new_right ≡ record B { rows = join_right_after kind (names A.columns) (names B.columns) F G view.rows A.rows B.rows }
  right_made = is_new_right ∙ (λ i. record { columns = (right_merged i).columns; rows = right_without kind (names (right_merged i).columns) (over_rows i) (kept_rows i) (right_merged i).rows })
      ∙ ap (λ R. record B { rows = R }) (right_by_kind kind (names A.columns) (names B.columns) F G view.rows A.rows B.rows)

-- ---- the laws

module _ (kind : JoinKind) (A B : Relation) (F G : List Edge) (O : Rows) (left_tree : IsTree F) (right_tree : IsTree G) (can : CanBePut A.columns B.columns F G) (fit_left : IsRelation A) (fit_right : IsRelation B)
    (left_meets : MeetsTree A.rows F) (right_meets : MeetsTree B.rows G) (fit_view : (r : Row) → has O r ≡ true → Fits (both_columns A.columns B.columns) r)
    (view_left : MeetsTree (project (names A.columns) O) F) (view_right : MeetsTree (project (names B.columns) O) G) where
  abbrev U : Names
  U = names A.columns

  abbrev V : Names
  V = names B.columns

  -- shapes with no test of rows
  abbrev s : Shape
  s = record { columns = A.columns; holds = λ r. true; tree = F }

  abbrev t : Shape
  t = record { columns = B.columns; holds = λ r. true; tree = G }

  can_join : CanJoin s t (F ++ G)
  can_join = record {
    kinds = one_kind A.columns B.columns can.kinds;
    tree_left = left_tree;
    tree_right = right_tree;
    within_left = can.left_within;
    within_right = can.right_within;
    sees_left = λ a b h. refl;
    sees_right = λ a b h. refl;
    keeps_left = λ M L h k r i. refl;
    keeps_right = λ M L h k r i. refl;
    splits = λ O h. append_parts (λ e. Meets O e.left e.right) F G h;
    joins = λ O f g. all_append (λ e. Meets O e.left e.right) F G f g;
    decides = λ N m. implies_sound (shared_names A.columns B.columns) V _ G N (closure_is (shared_names A.columns B.columns) G) can.decides m;
  }

  -- a view whose parts meet the trees meets both
  meets_left : MeetsTree O F
  meets_left = cut_meets U F (project U O) O can.left_within (λ r i. (cut U r, in_project U O r i, agree_back U _ r (agree-cut U r))) view_left

  meets_right : MeetsTree O G
  meets_right = cut_meets V G (project V O) O can.right_within (λ r i. (cut V r, in_project V O r i, agree_back V _ r (agree-cut V r))) view_right

  of_left : IsIn A.rows s
  of_left = record { columns = fit_left; holds = λ r i. refl; meets = left_meets }

  of_right : IsIn B.rows t
  of_right = record { columns = fit_right; holds = λ r i. refl; meets = right_meets }

  of_view : IsIn O (join_shape s t (F ++ G))
  of_view = record { columns = fit_view; holds = λ r i. refl; meets = all_append (λ e. Meets O e.left e.right) F G meets_left meets_right }

  pub put_get : join_get U V (join_left_after kind U V F G O A.rows B.rows) (join_right_after kind U V F G O A.rows B.rows) ≡ O
  put_get = (kind_lawful kind s t (F ++ G) can_join).put_get O A.rows B.rows of_left of_right of_view

  pub get_put_left : O ≡ join_get U V A.rows B.rows → join_left_after kind U V F G O A.rows B.rows ≡ A.rows
  get_put_left same = ap (λ K. join_left_after kind U V F G K A.rows B.rows) same ∙ (kind_lawful kind s t (F ++ G) can_join).get_put_left A.rows B.rows of_left of_right

  pub get_put_right : O ≡ join_get U V A.rows B.rows → join_right_after kind U V F G O A.rows B.rows ≡ B.rows
  get_put_right same = ap (λ K. join_right_after kind U V F G K A.rows B.rows) same ∙ (kind_lawful kind s t (F ++ G) can_join).get_put_right A.rows B.rows of_left of_right
