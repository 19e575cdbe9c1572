use Rattle.std.proofs.Common.{◌≡◌, ◌∙◌, ◌≤◌, IfOk, ap, arith, length, not, refl, subst, sym}
use Rattle.plain_values.proofs.Common.{eqb-true, IfOk-weaker, Row}
use Rattle.plain_values.specs.SortedSet as set
use Rattle.lens_specs.specs.Common.{names, new_view, Rows, those}
use Rattle.lens_laws.proofs.Common.{count-none}
use Rattle.signed_delta.proofs.Counts.{those_len}
use Rattle.join_delta.specs.Joined.{AreKeyed, edited}
use Rattle.join_delta.specs.Pairs.{shows}
use Rattle.join_delta.proofs.JoinLooks.{found_looks, over_looks}
use Rattle.join_delta.proofs.OnePartner.{near_keyed, pairs_few}
use Rattle.join_delta.proofs.NearPairs.{left_fits, none_left, over_made, right_fits, shared_left}
use Rattle.join_delta.proofs.over.over_pairs.Given.{Over}
use Rattle.join_delta.proofs.over.over_pairs.Goals.{After-lacking}
use Rattle.join_delta.proofs.over.over_pairs.Goals as goal

pub returns-then-is_empty : goal.returns-then-is_empty
returns-then-is_empty g c =
    let R = g.A.Look.relation c.args.left.now in
    let Q = g.B.Look.relation c.args.right.now in
    let empty = ap (λ (M : Rows). length (set.items M)) c.empty.ensures in
    let none = count-none in
    record {
      over = none_left (names R.columns) (names Q.columns) c.args.rows.now (new_view Q.rows c.args.change.now) (edited R Q c.args.delta.now) c.empty.result c.rows.result.now c.rows.ensures
          (eqb-true _ _ (sym c.is_empty.ensures ∙ c.if-is_empty.true)) c.empty.ensures;
      looks = λ a b v w keyed. omega arith;
      few = λ keyed. omega (arith, empty, none);
    }

pub find_each-requires-clause-have : goal.find_each-requires-clause-have
find_each-requires-clause-have g c = λ row there k i.
    let R = g.A.Look.relation c.args.left.now in
    let Q = g.B.Look.relation c.args.right.now in
    shared_left R.columns Q.columns row (c.requires.rows row there) k (ap (λ C. set.contains C k) (sym c.requires.sides.shared) ∙ i)

pub lacking-requires-clause-left : goal.lacking-requires-clause-left
lacking-requires-clause-left g c =
    let R = g.A.Look.relation c.args.left.now in
    let Q = g.B.Look.relation c.args.right.now in
    left_fits R.columns Q.columns R.rows Q.rows c.args.rows.now c.args.change.now c.args.delta.now c.requires.left c.requires.right c.requires.rows c.requires.change
    c.args.sides.now.shared c.args.sides.now.left c.args.sides.now.right c.in_ok-found.found c.in_ok-near.near c.in_ok-pairs.pairs
    c.requires.sides.shared c.requires.sides.left c.requires.sides.right c.in_ok-found.ensures.found c.in_ok-near.ensures c.in_ok-pairs.ensures

pub lacking-requires-clause-right : goal.lacking-requires-clause-right
lacking-requires-clause-right g c =
    let R = g.A.Look.relation c.args.left.now in
    let Q = g.B.Look.relation c.args.right.now in
    right_fits R.columns Q.columns R.rows Q.rows c.args.rows.now c.args.change.now c.args.delta.now c.requires.left c.requires.right c.requires.rows c.requires.change
    c.args.sides.now.shared c.args.sides.now.left c.args.sides.now.right c.in_ok-found.found c.in_ok-near.near c.in_ok-pairs.pairs
    c.requires.sides.shared c.requires.sides.left c.requires.sides.right c.in_ok-found.ensures.found c.in_ok-near.ensures c.in_ok-pairs.ensures

pairs_at_most : (g : Over) (c : After-lacking g) → AreKeyed c.args.sides.now.shared (new_view (g.B.Look.relation c.args.right.now).rows c.args.change.now)
    → length (set.items c.in_ok-pairs.pairs) ≤ length (set.items c.args.rows.now)
pairs_at_most g c keyed =
    subst (λ (P : Rows). length (set.items P) ≤ length (set.items c.args.rows.now)) (sym c.in_ok-pairs.ensures)
    (pairs_few c.args.sides.now.shared c.args.rows.now c.in_ok-near.near
    (near_keyed c.args.sides.now.shared c.args.sides.now.shared (g.B.Look.relation c.args.right.now).rows c.args.rows.now c.in_ok-found.found c.in_ok-near.near c.args.change.now refl c.in_ok-found.ensures.found c.in_ok-near.ensures keyed))

pub returns : goal.returns
returns g c =
    let R = g.A.Look.relation c.args.left.now in
    let Q = g.B.Look.relation c.args.right.now in
    let is = over_made R.columns Q.columns R.rows Q.rows c.args.rows.now c.args.change.now c.args.delta.now c.requires.left c.requires.right c.requires.rows c.requires.change
    c.args.sides.now.shared c.args.sides.now.left c.args.sides.now.right c.in_ok-found.found c.in_ok-near.near c.in_ok-pairs.pairs
    c.requires.sides.shared c.requires.sides.left c.requires.sides.right c.in_ok-found.ensures.found c.in_ok-near.ensures c.in_ok-pairs.ensures in
    let e = goal.at.returns g c in
    let lacks = λ (q : Row). not (shows c.args.sides.now.left c.args.sides.now.right R.rows Q.rows c.args.delta.now q) in
    record {
      over = subst (λ (s : Rows). IfOk c.lacking.result (λ over. over ≡ s)) is c.lacking.ensures.rows;
      looks = λ a b v w keyed.
          over_looks a b (length (set.items c.args.rows.now)) (length (set.items c.in_ok-pairs.pairs)) c.args.looked.now c.find_each.new.looked c.lacking.new.looked (pairs_at_most g e.After-lacking keyed) (c.find_each.ensures.looks b w) (c.lacking.ensures.looks a b v w);
      few = IfOk-weaker c.lacking.result (λ over. over ≡ those lacks c.in_ok-pairs.pairs) (λ over. AreKeyed c.args.sides.now.shared (new_view Q.rows c.args.change.now) → length (set.items over) ≤ length (set.items c.args.rows.now))
          (λ over made keyed.
          let all = pairs_at_most g e.After-lacking keyed in
          let some = those_len lacks c.in_ok-pairs.pairs in
          let same = ap (λ (M : Rows). length (set.items M)) made in
          omega (arith, all, some, same)) c.lacking.ensures.rows;
    }

pub returns-in_err-found-clause-looks : goal.returns-in_err-found-clause-looks
returns-in_err-found-clause-looks g c = λ a b v w keyed. found_looks a b (length (set.items c.args.rows.now)) c.args.looked.now c.find_each.new.looked (c.find_each.ensures.looks b w)

pub returns-in_err-near-clause-looks : goal.returns-in_err-near-clause-looks
returns-in_err-near-clause-looks g c = λ a b v w keyed. found_looks a b (length (set.items c.args.rows.now)) c.args.looked.now c.find_each.new.looked (c.find_each.ensures.looks b w)

pub returns-in_err-pairs-clause-looks : goal.returns-in_err-pairs-clause-looks
returns-in_err-pairs-clause-looks g c = λ a b v w keyed. found_looks a b (length (set.items c.args.rows.now)) c.args.looked.now c.find_each.new.looked (c.find_each.ensures.looks b w)
