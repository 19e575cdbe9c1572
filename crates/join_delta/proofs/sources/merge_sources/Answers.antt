use Rattle.std.proofs.Common.{◌≡◌, ◌∙◌, ℕ, ◌+◌, ◌*◌, ◌≤◌, ap, arith, inl, inr, length, refl, subst, sym}
use Rattle.plain_values.proofs.Common.{Contains}
use Rattle.plain_values.specs.SortedSet as set
use Rattle.lens_specs.specs.Common.{names, Delta, new_view, has, minus, project}
use Rattle.lens_laws.proofs.Common.{join_delta_right, merge_delta, suspects, count_of, rows_of}
use Rattle.signed_delta.proofs.Counts.{minus_len, union_len}
use Rattle.signed_delta.proofs.Gives.{gives_by_edges}
use Rattle.join_delta.specs.Joined.{AreKeyed, shared_names}
use Rattle.fd_laws.proofs.Common.{from_minus, from_union}
use Rattle.join_delta.proofs.CarriedJoin.{apart, join_edit, left_merges, left_parts_fit, merge_fits, merged_left, right_is, right_keyed, right_parts_fit, surplus_is, surplus_made, suspects_fit}
use Rattle.join_delta.proofs.JoinLooks.{after_merges, after_suspects, after_tests, new_few, new_right, part_few, revised_few, suspect_looks, suspects_few, test_looks, tested_few}
use Rattle.join_delta.proofs.NearPairs.{shared_right}
use Rattle.join_delta.proofs.sources.merge_sources.Given.{Over}
use Rattle.join_delta.proofs.sources.merge_sources.Goals.{After-over_pairs, After-suspects}
use Rattle.join_delta.proofs.sources.merge_sources.Goals as goal

pub suspects-requires-clause-have : goal.suspects-requires-clause-have
suspects-requires-clause-have g c = λ row there k i.
    let R = g.A.Look.relation c.args.left.now.look.now in
    let Q = g.B.Look.relation c.args.right.now.look.now in
    let G = c.args.right.now.tree.now in
    let d = c.args.delta.now in
    let s = c.in_ok-merges.ensures.merges in
    let changes : c.in_ok-merges.merges.right ≡ join_delta_right (names Q.columns) G Q.rows d = s.right ∙ ap (merge_delta G Q.rows) s.right_rows in
    let shared : c.in_ok-sides.sides.shared ≡ shared_names R.columns Q.columns =
    c.in_ok-sides.ensures.shared ∙ (λ i. set.intersection (names (c.columns.ensures.columns i)) (names (c.columns-2.ensures.columns i))) in
    shared_right R.columns Q.columns row
    (merge_fits Q.columns G Q.rows (project (names Q.columns) d.add) c.columns-2.ensures.fit (right_parts_fit c.requires) row (ap (λ (x : Delta). has x.add row) (sym changes) ∙ there))
    k (ap (λ C. set.contains C k) (sym shared) ∙ i)

pub over_pairs-requires-clause-rows : goal.over_pairs-requires-clause-rows
over_pairs-requires-clause-rows g c =
    let R = g.A.Look.relation c.args.left.now.look.now in
    let Q = g.B.Look.relation c.args.right.now.look.now in
    let F = c.args.left.now.tree.now in
    let d = c.args.delta.now in
    let m = c.in_ok-merges.merges in
    let s = c.in_ok-merges.ensures.merges in
    let q = join_edit c.requires c.columns.ensures.fit c.columns-2.ensures.fit s.left_tree s.right_tree in
    let shared : c.in_ok-sides.sides.shared ≡ shared_names R.columns Q.columns =
    c.in_ok-sides.ensures.shared ∙ (λ i. set.intersection (names (c.columns.ensures.columns i)) (names (c.columns-2.ensures.columns i))) in
    let suspected : c.in_ok-suspects.suspects ≡ suspects (shared_names R.columns Q.columns) (names R.columns) R.rows d m.right.add =
    c.in_ok-suspects.ensures.suspects ∙ (λ i. suspects (shared i) ((c.in_ok-sides.ensures.left ∙ ap names c.columns.ensures.columns) i) R.rows d m.right.add) in
    let merges : ◌≡◌ {A = Delta} (record { remove = m.left.remove; add = m.left.add }) (merge_delta F R.rows (project (names R.columns) d.add)) =
    s.left ∙ ap (merge_delta F R.rows) s.left_rows in
    λ row there. elim (from_union _ _ row (ap (λ N. has N row) (sym c.in_ok-tested.ensures) ∙ there)) [
      | inl i ↦ suspects_fit q m.right.add row
          (ap (λ N. has N row) (sym suspected) ∙ (from_minus c.in_ok-suspects.suspects m.left.remove row i).0)
      | inr i ↦ merge_fits R.columns F R.rows (project (names R.columns) d.add) c.columns.ensures.fit (left_parts_fit c.requires) row
          (ap (λ (x : Delta). has x.add row) (sym merges) ∙ (from_minus m.left.add m.left_rows row i).0)
    ]

pub over_pairs-requires-clause-change : goal.over_pairs-requires-clause-change
over_pairs-requires-clause-change g c = λ row there.
    let Q = g.B.Look.relation c.args.right.now.look.now in
    let G = c.args.right.now.tree.now in
    let d = c.args.delta.now in
    let s = c.in_ok-merges.ensures.merges in
    let changes : c.in_ok-merges.merges.right ≡ join_delta_right (names Q.columns) G Q.rows d = s.right ∙ ap (merge_delta G Q.rows) s.right_rows in
    merge_fits Q.columns G Q.rows (project (names Q.columns) d.add) c.columns-2.ensures.fit (right_parts_fit c.requires) row (ap (λ (x : Delta). has x.add row) (sym changes) ∙ there)

pub new-left_change-requires : goal.new-left_change-requires
new-left_change-requires g c =
    let R = g.A.Look.relation c.args.left.now.look.now in
    let s = c.in_ok-merges.ensures.merges in
    let q = join_edit c.requires c.columns.ensures.fit c.columns-2.ensures.fit s.left_tree s.right_tree in
    apart R.rows (merged_left q) c.in_ok-merges.merges.left.remove c.in_ok-merges.merges.left.add
    (s.left ∙ ap (merge_delta c.args.left.now.tree.now R.rows) s.left_rows ∙ left_merges q)

-- ---- looks, call by call

suspect_step : (g : Over) (c : After-suspects g) (a b : ℕ) → g.A.Look.within c.args.left.now.look.now a → g.B.Look.within c.args.right.now.look.now b → length c.args.right.now.tree.now ≤ 64
    → c.suspects.new.looked ≤ c.merge_parts.new.looked + 65 * (rows_of c.args.delta.now * (a * b))
suspect_step g c a b v w edges =
    let Q = g.B.Look.relation c.args.right.now.look.now in
    let d = c.args.delta.now in
    let m = c.in_ok-merges.merges in
    let s = c.in_ok-merges.ensures.merges in
    let few = part_few (names Q.columns) (names Q.columns) d.add d.add m.right_rows s.right_rows refl in
    let new = new_right (g.B.Look.asked c.args.right.now.look.now) c.args.right.now.tree.now Q.rows m.right_rows m.right b edges (c.columns-2.ensures.gives b w) c.requires.right_asked s.right in
    suspect_looks a b (c.columns.ensures.some a v) (c.columns-2.ensures.some b w) (count_of m.right_rows) (count_of m.right.add) (rows_of d)
    c.merge_parts.new.looked c.suspects.new.looked (omega (arith, few)) new (c.suspects.ensures.looks a v)

-- the right rows are told apart
right_rows_keyed : (g : Over) (c : After-over_pairs g) → AreKeyed c.in_ok-sides.sides.shared (new_view (g.B.Look.relation c.args.right.now.look.now).rows c.in_ok-merges.merges.right)
right_rows_keyed g c =
    let R = g.A.Look.relation c.args.left.now.look.now in
    let Q = g.B.Look.relation c.args.right.now.look.now in
    let G = c.args.right.now.tree.now in
    let d = c.args.delta.now in
    let s = c.in_ok-merges.ensures.merges in
    let q = join_edit c.requires c.columns.ensures.fit c.columns-2.ensures.fit s.left_tree s.right_tree in
    let changes : c.in_ok-merges.merges.right ≡ join_delta_right (names Q.columns) G Q.rows d = s.right ∙ ap (merge_delta G Q.rows) s.right_rows in
    let shared : c.in_ok-sides.sides.shared ≡ shared_names R.columns Q.columns =
    c.in_ok-sides.ensures.shared ∙ (λ i. set.intersection (names (c.columns.ensures.columns i)) (names (c.columns-2.ensures.columns i))) in
    subst (λ C. AreKeyed C (new_view Q.rows c.in_ok-merges.merges.right)) (sym shared)
    (subst (λ (x : Delta). AreKeyed (shared_names R.columns Q.columns) (new_view Q.rows x)) (sym changes)
    (right_keyed q))

-- so few rows are tested
tested_step : (g : Over) (c : After-over_pairs g) (a b : ℕ) → g.A.Look.within c.args.left.now.look.now a → g.B.Look.within c.args.right.now.look.now b → length c.args.left.now.tree.now ≤ 64 → length c.args.right.now.tree.now ≤ 64
    → count_of c.in_ok-tested.tested ≤ 129 * (rows_of c.args.delta.now * (a * b))
tested_step g c a b v w edges more =
    let R = g.A.Look.relation c.args.left.now.look.now in
    let Q = g.B.Look.relation c.args.right.now.look.now in
    let F = c.args.left.now.tree.now in
    let d = c.args.delta.now in
    let m = c.in_ok-merges.merges in
    let s = c.in_ok-merges.ensures.merges in
    let some_a = c.columns.ensures.some a v in
    let some_b = c.columns-2.ensures.some b w in
    let shared : c.in_ok-sides.sides.shared ≡ shared_names R.columns Q.columns =
    c.in_ok-sides.ensures.shared ∙ (λ i. set.intersection (names (c.columns.ensures.columns i)) (names (c.columns-2.ensures.columns i))) in
    let parts_few = part_few (names Q.columns) (names Q.columns) d.add d.add m.right_rows s.right_rows refl in
    let new = new_right (g.B.Look.asked c.args.right.now.look.now) c.args.right.now.tree.now Q.rows m.right_rows m.right b more (c.columns-2.ensures.gives b w) c.requires.right_asked s.right in
    let few = part_few (names R.columns) (names R.columns) d.add d.add m.left_rows s.left_rows refl in
    let suspected : count_of c.in_ok-suspects.suspects ≤ count_of d.remove + a * count_of m.right.add =
    subst (λ X. count_of X ≤ count_of d.remove + a * count_of m.right.add) (sym c.in_ok-suspects.ensures.suspects)
    (suspects_few c.in_ok-sides.sides.shared c.in_ok-sides.sides.left R.rows d m.right.add a
    (λ k. c.columns.ensures.gives a v c.in_ok-sides.sides.shared k (subst (Contains (g.A.Look.asked c.args.left.now.look.now)) (sym shared) c.requires.left_shared))) in
    let merges = ap (λ (x : Delta). count_of (minus x.add m.left_rows)) s.left in
    let revised = revised_few F R.rows m.left_rows a edges (gives_by_edges (g.A.Look.asked c.args.left.now.look.now) F R.rows a (c.columns.ensures.gives a v) c.requires.left_asked) in
    let is = ap count_of c.in_ok-tested.ensures in
    let both = union_len (minus c.in_ok-suspects.suspects m.left.remove) (minus m.left.add m.left_rows) in
    let less = minus_len c.in_ok-suspects.suspects m.left.remove in
    tested_few a b some_a some_b (rows_of d) (count_of d.remove) (count_of d.add) (count_of m.right.add) (count_of m.left_rows) (count_of c.in_ok-suspects.suspects)
    (count_of (minus m.left.add m.left_rows)) (count_of c.in_ok-tested.tested)
    (omega arith) (new_few a b some_a some_b (count_of m.right_rows) (count_of m.right.add) (count_of d.add) parts_few new) few suspected (omega (arith, merges, revised)) (omega (arith, is, both, less))

-- each with one right row
test_step : (g : Over) (c : After-over_pairs g) (a b : ℕ) → g.A.Look.within c.args.left.now.look.now a → g.B.Look.within c.args.right.now.look.now b → length c.args.left.now.tree.now ≤ 64 → length c.args.right.now.tree.now ≤ 64
    → c.over_pairs.new.looked ≤ c.suspects.new.looked + 387 * (rows_of c.args.delta.now * (a * b) * (a * b))
test_step g c a b v w edges more =
    test_looks a b (c.columns.ensures.some a v) (c.columns-2.ensures.some b w) (rows_of c.args.delta.now) (count_of c.in_ok-tested.tested) c.suspects.new.looked c.over_pairs.new.looked
    (tested_step g c a b v w edges more) (c.over_pairs.ensures.looks a b v w (right_rows_keyed g c))

pub returns : goal.returns
returns g c =
    let R = g.A.Look.relation c.args.left.now.look.now in
    let Q = g.B.Look.relation c.args.right.now.look.now in
    let F = c.args.left.now.tree.now in
    let G = c.args.right.now.tree.now in
    let d = c.args.delta.now in
    let m = c.in_ok-merges.merges in
    let s = c.in_ok-merges.ensures.merges in
    let q = join_edit c.requires c.columns.ensures.fit c.columns-2.ensures.fit s.left_tree s.right_tree in
    let left_columns : c.in_ok-sides.sides.left ≡ names R.columns = c.in_ok-sides.ensures.left ∙ ap names c.columns.ensures.columns in
    let right_columns : c.in_ok-sides.sides.right ≡ names Q.columns = c.in_ok-sides.ensures.right ∙ ap names c.columns-2.ensures.columns in
    let shared : c.in_ok-sides.sides.shared ≡ shared_names R.columns Q.columns =
    c.in_ok-sides.ensures.shared ∙ (λ i. set.intersection (names (c.columns.ensures.columns i)) (names (c.columns-2.ensures.columns i))) in
    let changes : m.right ≡ join_delta_right (names Q.columns) G Q.rows d = s.right ∙ ap (merge_delta G Q.rows) s.right_rows in
    let merges : ◌≡◌ {A = Delta} (record { remove = m.left.remove; add = m.left.add }) (merge_delta F R.rows (project (names R.columns) d.add)) =
    s.left ∙ ap (merge_delta F R.rows) s.left_rows in
    let suspected : c.in_ok-suspects.suspects ≡ suspects (shared_names R.columns Q.columns) (names R.columns) R.rows d m.right.add =
    c.in_ok-suspects.ensures.suspects ∙ (λ i. suspects (shared i) (left_columns i) R.rows d m.right.add) in
    let e = goal.at.returns g c in
    record {
      merged = record {
        sides = record { left = left_columns; right = right_columns; shared = shared };
        left = c.new-left_change.ensures ∙ merges ∙ left_merges q;
        right = changes ∙ right_is q;
        parts = s.right_rows;
        over = surplus_made R Q F G d m.right (record { remove = m.left.remove; add = m.left.add })
            c.in_ok-suspects.suspects m.left_rows c.in_ok-tested.tested c.in_ok-over.over changes merges s.left_rows suspected c.in_ok-tested.ensures c.in_ok-over.ensures.over
            ∙ surplus_is q;
      };
      left = record { fit = c.columns.ensures.fit; tree = s.left_tree; some = c.columns.ensures.some; gives = c.columns.ensures.gives };
      right = record { fit = c.columns-2.ensures.fit; tree = s.right_tree; some = c.columns-2.ensures.some; gives = c.columns-2.ensures.gives };
      looks = λ a b v w edges more.
          let some_a = c.columns.ensures.some a v in
          let some_b = c.columns-2.ensures.some b w in
          after_tests a b some_a some_b (rows_of d) c.args.looked.now c.merge_parts.new.looked c.suspects.new.looked c.over_pairs.new.looked
          (c.merge_parts.ensures.looks a b v w some_a some_b edges more) (suspect_step g e.After-suspects a b v w more) (test_step g e.After-over_pairs a b v w edges more);
      few = λ a b v w edges more.
          let pairs = c.in_ok-over.ensures.few (right_rows_keyed g e.After-over_pairs) in
          let few = tested_step g e.After-over_pairs a b v w edges more in
          omega (arith, pairs, few);
    }

pub returns-in_err-merges-clause-looks : goal.returns-in_err-merges-clause-looks
returns-in_err-merges-clause-looks g c = λ a b v w edges more.
    let some_a = c.columns.ensures.some a v in
    let some_b = c.columns-2.ensures.some b w in
    after_merges a b some_a some_b (rows_of c.args.delta.now) c.args.looked.now c.merge_parts.new.looked (c.merge_parts.ensures.looks a b v w some_a some_b edges more)

pub returns-in_err-suspects-clause-looks : goal.returns-in_err-suspects-clause-looks
returns-in_err-suspects-clause-looks g c = λ a b v w edges more.
    let some_a = c.columns.ensures.some a v in
    let some_b = c.columns-2.ensures.some b w in
    after_suspects a b some_a some_b (rows_of c.args.delta.now) c.args.looked.now c.merge_parts.new.looked c.suspects.new.looked
    (c.merge_parts.ensures.looks a b v w some_a some_b edges more) (suspect_step g (goal.at.returns-in_err-suspects-clause-looks g c).After-suspects a b v w more)

pub returns-in_err-tested-clause-looks : goal.returns-in_err-tested-clause-looks
returns-in_err-tested-clause-looks g c = λ a b v w edges more.
    let some_a = c.columns.ensures.some a v in
    let some_b = c.columns-2.ensures.some b w in
    after_suspects a b some_a some_b (rows_of c.args.delta.now) c.args.looked.now c.merge_parts.new.looked c.suspects.new.looked
    (c.merge_parts.ensures.looks a b v w some_a some_b edges more) (suspect_step g (goal.at.returns-in_err-tested-clause-looks g c).After-suspects a b v w more)

pub returns-in_err-over-clause-looks : goal.returns-in_err-over-clause-looks
returns-in_err-over-clause-looks g c = λ a b v w edges more.
    let some_a = c.columns.ensures.some a v in
    let some_b = c.columns-2.ensures.some b w in
    let e = goal.at.returns-in_err-over-clause-looks g c in
    after_tests a b some_a some_b (rows_of c.args.delta.now) c.args.looked.now c.merge_parts.new.looked c.suspects.new.looked c.over_pairs.new.looked
    (c.merge_parts.ensures.looks a b v w some_a some_b edges more) (suspect_step g e.After-suspects a b v w more) (test_step g e.After-over_pairs a b v w edges more)
