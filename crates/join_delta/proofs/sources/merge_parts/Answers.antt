use Rattle.std.proofs.Common.{◌≡◌, ◌∙◌, ℕ, ◌+◌, ◌*◌, ◌≤◌, ap, arith, length, sym, true}
use Rattle.plain_values.proofs.Common.{parts_same}
use Rattle.lens_specs.specs.Common.{names, has, project, agree, cut}
use Rattle.lens_laws.proofs.Common.{merge_delta, count_of, rows_of, from_natural}
use Rattle.fd_laws.proofs.Common.{from_project}
use Rattle.join_delta.proofs.CarriedJoin.{apart, join_edit, left_parts_fit, lefts_within, merged_right, right_is, right_parts_fit}
use Rattle.join_delta.proofs.JoinLooks.{left_looks, part_few, right_looks}
use Rattle.join_delta.proofs.sources.merge_parts.Given.{Over}
use Rattle.join_delta.proofs.sources.merge_parts.Goals.{After-merge_known, After-merge_change}
use Rattle.join_delta.proofs.sources.merge_parts.Goals as goal

pub merge_known-requires-clause-can : goal.merge_known-requires-clause-can
merge_known-requires-clause-can g c =
    let Q = g.B.Look.relation c.args.right.now.look.now in
    let p = c.requires.can in
    let right_rows : c.in_ok-right_rows.right_rows ≡ project (names Q.columns) c.args.delta.now.add =
    c.in_ok-right_rows.ensures ∙ (λ i. project (c.requires.sides.right i) (c.add.ensures i)) in
    record {
      asked = p.right_asked;
      columns = lefts_within (names Q.columns) c.args.right.now.tree.now p.can.within_right;
      meets = p.right_meets;
      fit = λ row there. right_parts_fit p row (ap (λ N. has N row) (sym right_rows) ∙ there);
    }

pub merge_known-requires-clause-there : goal.merge_known-requires-clause-there
unfolding cut
merge_known-requires-clause-there g c = λ stay row there.
    let R = g.A.Look.relation c.args.left.now.look.now in
    let Q = g.B.Look.relation c.args.right.now.look.now in
    let V = names Q.columns in
    let d = c.args.delta.now in
    let right_rows : c.in_ok-right_rows.right_rows ≡ project V d.add = c.in_ok-right_rows.ensures ∙ (λ i. project (c.requires.sides.right i) (c.add.ensures i)) in
    let added = from_project V d.add row (ap (λ N. has N row) (sym right_rows) ∙ there) in
    let gone = c.exchanges-stay.ensures stay added.0 added.1 in
    let alike : agree V gone.0 added.0 ≡ true = ap (λ C. agree C gone.0 added.0) (sym c.requires.sides.right) ∙ gone.2 in
    ap (has Q.rows) (added.2 ∙ parts_same V gone.0 added.0 alike)
    ∙ (from_natural R.columns Q.columns R.rows Q.rows c.requires.left c.requires.right gone.0 (c.requires.can.applies.removes gone.0 gone.1)).1

pub merge_change-requires : goal.merge_change-requires
merge_change-requires g c =
    let R = g.A.Look.relation c.args.left.now.look.now in
    let p = c.requires.can in
    let left_rows : c.in_ok-left_rows.left_rows ≡ project (names R.columns) c.args.delta.now.add =
    c.in_ok-left_rows.ensures ∙ (λ i. project (c.requires.sides.left i) (c.add-2.ensures i)) in
    record {
      asked = p.left_asked;
      columns = lefts_within (names R.columns) c.args.left.now.tree.now p.can.within_left;
      meets = p.left_meets;
      fit = λ row there. left_parts_fit p row (ap (λ N. has N row) (sym left_rows) ∙ there);
    }

pub new-right_change-requires : goal.new-right_change-requires
new-right_change-requires g c =
    let Q = g.B.Look.relation c.args.right.now.look.now in
    let q = join_edit c.requires.can c.requires.left c.requires.right c.in_ok-merged.ensures.tree c.in_ok-change.ensures.tree in
    let right_rows : c.in_ok-right_rows.right_rows ≡ project (names Q.columns) c.args.delta.now.add =
    c.in_ok-right_rows.ensures ∙ (λ i. project (c.requires.sides.right i) (c.add.ensures i)) in
    apart Q.rows (merged_right q) c.in_ok-change.change.remove c.in_ok-change.change.add
    (c.in_ok-change.ensures.change ∙ ap (merge_delta c.args.right.now.tree.now Q.rows) right_rows ∙ right_is q)

-- ---- looks, call by call

right_step : (g : Over) (c : After-merge_known g) (a b : ℕ) → g.B.Look.within c.args.right.now.look.now b → 1 ≤ a → 1 ≤ b → length c.args.right.now.tree.now ≤ 64
    → c.merge_known.new.looked ≤ c.args.looked.now + 65 * (rows_of c.args.delta.now * (a * b))
right_step g c a b w some_a some_b edges =
    let few = part_few c.args.sides.now.right c.args.sides.now.right c.add.result.now c.args.delta.now.add c.in_ok-right_rows.right_rows c.in_ok-right_rows.ensures c.add.ensures in
    right_looks a b some_a some_b (count_of c.in_ok-right_rows.right_rows) (length c.args.right.now.tree.now) (rows_of c.args.delta.now)
    c.args.looked.now c.merge_known.new.looked (omega arith) edges (c.merge_known.ensures.looks b w)

left_step : (g : Over) (c : After-merge_change g) (a b : ℕ) → g.A.Look.within c.args.left.now.look.now a → 1 ≤ a → 1 ≤ b → length c.args.left.now.tree.now ≤ 64
    → c.merge_change.new.looked ≤ c.merge_known.new.looked + 65 * (rows_of c.args.delta.now * (a * b))
left_step g c a b v some_a some_b edges =
    let few = part_few c.args.sides.now.left c.args.sides.now.left c.add-2.result.now c.args.delta.now.add c.in_ok-left_rows.left_rows c.in_ok-left_rows.ensures c.add-2.ensures in
    left_looks a b some_a some_b (count_of c.in_ok-left_rows.left_rows) (length c.args.left.now.tree.now) (rows_of c.args.delta.now)
    c.merge_known.new.looked c.merge_change.new.looked (omega arith) edges (c.merge_change.ensures.looks a v)

pub returns : goal.returns
returns g c =
    let e = goal.at.returns g c in
    record {
      merges = record {
        left_rows = c.in_ok-left_rows.ensures ∙ (λ i. project (c.requires.sides.left i) (c.add-2.ensures i));
        right_rows = c.in_ok-right_rows.ensures ∙ (λ i. project (c.requires.sides.right i) (c.add.ensures i));
        left = c.in_ok-merged.ensures.change;
        right = c.new-right_change.ensures ∙ c.in_ok-change.ensures.change;
        left_tree = c.in_ok-merged.ensures.tree;
        right_tree = c.in_ok-change.ensures.tree;
      };
      looks = λ a b v w some_a some_b edges more.
          let right = right_step g e.After-merge_known a b w some_a some_b more in
          let left = left_step g e.After-merge_change a b v some_a some_b edges in
          omega (arith, right, left);
    }

pub returns-in_err-change-clause-looks : goal.returns-in_err-change-clause-looks
returns-in_err-change-clause-looks g c = λ a b v w some_a some_b edges more.
    let right = right_step g (goal.at.returns-in_err-change-clause-looks g c).After-merge_known a b w some_a some_b more in
    omega (arith, right)

pub returns-in_err-left_rows-clause-looks : goal.returns-in_err-left_rows-clause-looks
returns-in_err-left_rows-clause-looks g c = λ a b v w some_a some_b edges more.
    let right = right_step g (goal.at.returns-in_err-left_rows-clause-looks g c).After-merge_known a b w some_a some_b more in
    omega (arith, right)

pub returns-in_err-merged-clause-looks : goal.returns-in_err-merged-clause-looks
returns-in_err-merged-clause-looks g c = λ a b v w some_a some_b edges more.
    let e = goal.at.returns-in_err-merged-clause-looks g c in
    let right = right_step g e.After-merge_known a b w some_a some_b more in
    let left = left_step g e.After-merge_change a b v some_a some_b edges in
    omega (arith, right, left)
