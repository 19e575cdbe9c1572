use Rattle.std.proofs.Common.{ap, arith, length}
use Rattle.plain_values.specs.SortedSet as set
use Rattle.lens_laws.proofs.Common.{size}
use Rattle.signed_delta.proofs.Counts.{at_end, next, one_more}
use Rattle.signed_delta.proofs.Looks.{listed_at}
use Rattle.lens_probe.proofs.near.near_each.Goals as goal

pub near_row-requires-clause-fits : goal.near_row-requires-clause-fits
near_row-requires-clause-fits g c = c.requires.fit c.row-item.result
    (listed_at c.args.rows.now c.rows-row-items.result.now c.loop-row.row-index c.row-item.result c.rows-row-items.ensures c.loop-row-test.true c.row-item.is)

pub loop-row-preserved : goal.loop-row-preserved
loop-row-preserved g c = (
  c.in_ok-near.ensures.near,
  λ w few. next (size c.args.lens.now w) c.loop-row.row-index c.args.looked.now c.loop-row.looked c.near_row.new.looked (c.loop-row.invariant.1 w few) (c.near_row.ensures.looks w few),
)

pub returns-in_err-near-clause-looks : goal.returns-in_err-near-clause-looks
returns-in_err-near-clause-looks g c = λ w few.
    one_more (size c.args.lens.now w) c.loop-row.row-index (length (set.items c.args.rows.now)) c.args.looked.now c.loop-row.looked c.near_row.new.looked (omega (arith, c.loop-row-test.true, ap length c.rows-row-items.ensures))
    (c.loop-row.invariant.1 w few) (c.near_row.ensures.looks w few)

pub returns-clause-looks : goal.returns-clause-looks
returns-clause-looks g c = λ w few.
    at_end (size c.args.lens.now w) c.loop-row.row-index (length (set.items c.args.rows.now)) c.args.looked.now c.loop-row.looked (omega (arith, c.loop-row.auto.row-index-end, ap length c.rows-row-items.ensures)) (c.loop-row.invariant.1 w few)
