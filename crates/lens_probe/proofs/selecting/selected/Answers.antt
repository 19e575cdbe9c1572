use Rattle.std.proofs.Common.{◌∙◌, ap, filter, sym, take}
use Rattle.lens_specs.specs.Common.{holds}
use Rattle.signed_delta.proofs.Looks.{passed_are, passed_rise}
use Rattle.lens_probe.proofs.Found.{all_pass}
use Rattle.lens_probe.proofs.selecting.selected.Goals as goal

pub from_rising-requires : goal.from_rising-requires
from_rising-requires c =
    passed_rise (holds c.args.pred.now) c.args.rows c.rows-row-items.result.now c.loop-row.some.items c.loop-row.row-index c.rows-row-items.ensures c.loop-row-test.false
    (c.loop-row.invariant ∙ ap (λ rows. filter (holds c.args.pred.now) (take c.loop-row.row-index rows)) c.rows-row-items.ensures)

pub returns : goal.returns
returns c =
    c.from_rising.ensures
    ∙ passed_are (holds c.args.pred.now) c.args.rows c.rows-row-items.result.now c.loop-row.some.items c.loop-row.row-index c.rows-row-items.ensures c.loop-row-test.false
    (c.loop-row.invariant ∙ ap (λ rows. filter (holds c.args.pred.now) (take c.loop-row.row-index rows)) c.rows-row-items.ensures)

pub returns-then-all_hold : goal.returns-then-all_hold
returns-then-all_hold c = all_pass (holds c.args.pred.now) c.args.rows c.rows-2.result.now c.rows-2.ensures (sym c.all_hold.ensures ∙ c.if-all_hold.true)
