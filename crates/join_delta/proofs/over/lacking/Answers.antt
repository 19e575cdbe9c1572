use Rattle.std.proofs.Common.{not, ap, arith, length, ◌+◌, ◌∙◌}
use Rattle.plain_values.proofs.Common.{common_steps}
use Rattle.plain_values.specs.SortedSet as set
use Rattle.signed_delta.proofs.Counts.{at_end, next, one_more}
use Rattle.signed_delta.proofs.Looks.{listed_at, passed_are, passed_rise}
use Rattle.join_delta.specs.Pairs.{shows}
use Rattle.join_delta.proofs.over.lacking.Goals as goal

pub is_shown-requires-clause-left : goal.is_shown-requires-clause-left
is_shown-requires-clause-left g c = c.requires.left c.row-item.result
    (listed_at c.args.rows.now c.rows-row-items.result.now c.loop-row.row-index c.row-item.result c.rows-row-items.ensures c.loop-row-test.true c.row-item.is)

pub is_shown-requires-clause-right : goal.is_shown-requires-clause-right
is_shown-requires-clause-right g c = c.requires.right c.row-item.result
    (listed_at c.args.rows.now c.rows-row-items.result.now c.loop-row.row-index c.row-item.result c.rows-row-items.ensures c.loop-row-test.true c.row-item.is)

pub from_rising-requires : goal.from_rising-requires
from_rising-requires g c =
    let shown = shows c.args.sides.now.left c.args.sides.now.right (g.A.Look.relation c.args.left.now).rows (g.B.Look.relation c.args.right.now).rows c.args.delta.now in
    passed_rise (λ row. not (shown row)) c.args.rows.now c.rows-row-items.result.now c.loop-row.some.items c.loop-row.row-index c.rows-row-items.ensures c.loop-row-test.false c.loop-row.invariant.0

pub returns : goal.returns
returns g c =
    let shown = shows c.args.sides.now.left c.args.sides.now.right (g.A.Look.relation c.args.left.now).rows (g.B.Look.relation c.args.right.now).rows c.args.delta.now in
    record {
      rows = c.from_rising.ensures
          ∙ passed_are (λ row. not (shown row)) c.args.rows.now c.rows-row-items.result.now c.loop-row.some.items c.loop-row.row-index c.rows-row-items.ensures c.loop-row-test.false c.loop-row.invariant.0;
      looks = λ a b v w. at_end (a + b) c.loop-row.row-index (length (set.items c.args.rows.now)) c.args.looked.now c.loop-row.looked
          (let listed = ap length c.rows-row-items.ensures in omega (arith, listed, c.loop-row.auto.row-index-end)) (c.loop-row.invariant.1 a b v w);
    }

pub returns-in_err-is_shown-clause-looks : goal.returns-in_err-is_shown-clause-looks
returns-in_err-is_shown-clause-looks g c = λ a b v w.
    let listed = ap length c.rows-row-items.ensures in
    one_more (a + b) c.loop-row.row-index (length (set.items c.args.rows.now)) c.args.looked.now c.loop-row.looked c.is_shown.new.looked (omega (arith, listed, c.loop-row-test.true))
    (c.loop-row.invariant.1 a b v w) (c.is_shown.ensures.looks a b v w)

pub returns-in_err-copy-clause-looks : goal.returns-in_err-copy-clause-looks
returns-in_err-copy-clause-looks g c = λ a b v w.
    let listed = ap length c.rows-row-items.ensures in
    one_more (a + b) c.loop-row.row-index (length (set.items c.args.rows.now)) c.args.looked.now c.loop-row.looked c.is_shown.new.looked (omega (arith, listed, c.loop-row-test.true))
    (c.loop-row.invariant.1 a b v w) (c.is_shown.ensures.looks a b v w)

pub returns-in_err-push-clause-looks : goal.returns-in_err-push-clause-looks
returns-in_err-push-clause-looks g c = λ a b v w.
    let listed = ap length c.rows-row-items.ensures in
    one_more (a + b) c.loop-row.row-index (length (set.items c.args.rows.now)) c.args.looked.now c.loop-row.looked c.is_shown.new.looked (omega (arith, listed, c.loop-row-test.true))
    (c.loop-row.invariant.1 a b v w) (c.is_shown.ensures.looks a b v w)

pub loop-row-preserved : goal.loop-row-preserved
loop-row-preserved g c = (
  grind (arith, common_steps),
  λ a b v w. next (a + b) c.loop-row.row-index c.args.looked.now c.loop-row.looked c.is_shown.new.looked (c.loop-row.invariant.1 a b v w) (c.is_shown.ensures.looks a b v w),
)
