use Rattle.std.proofs.Common.{sym, ◌∙◌, arith}
use Rattle.plain_values.proofs.Common.{row_cmp}
use Rattle.lens_values.proofs.Groups.{one_more, first_above}
use Rattle.row_sets.proofs.index.not_above.Goals as goal

pub loop-place-preserved : goal.loop-place-preserved
loop-place-preserved c =
    one_more row_cmp (λ e. e.0) c.args.part.now c.args.entries.now c.loop-place.place c.index-entries-place.result c.loop-place-test.true c.index-entries-place.is c.loop-place.invariant
    (rw (← c.index-entries-place.is) at (sym c.gt.ensures ∙ c.if-gt.false))

pub returns-then-gt-clause-partitioned : goal.returns-then-gt-clause-partitioned
returns-then-gt-clause-partitioned c =
    first_above row_cmp (λ e. e.0) c.args.part.now c.args.entries.now c.loop-place.place c.index-entries-place.result c.loop-place-test.true c.index-entries-place.is c.requires c.loop-place.invariant
    (rw (← c.index-entries-place.is) at (sym c.gt.ensures ∙ c.if-gt.true))

pub returns-clause-partitioned : goal.returns-clause-partitioned
returns-clause-partitioned c = (λ k d u v. c.loop-place.invariant k d u (omega (arith, c.loop-place-test.false)), λ k d u v. absurd (omega arith))
