use Rattle.std.proofs.Common.{◌∙◌, not}
use Rattle.signed_delta.proofs.Looks.{passed_are, passed_rise}
use Rattle.revision.specs.Near.{is_like_first}
use Rattle.revision.proofs.unlike.unlike_rows.Goals as goal

pub from_rising-requires : goal.from_rising-requires
from_rising-requires c = passed_rise (λ row. not (is_like_first c.args.edge.now c.args.near.now row)) c.args.plus.now c.rows-row-items.result.now c.loop-row.rows.items
    c.loop-row.row-index c.rows-row-items.ensures c.loop-row-test.false c.loop-row.invariant

pub returns : goal.returns
returns c = c.from_rising.ensures ∙ passed_are (λ row. not (is_like_first c.args.edge.now c.args.near.now row)) c.args.plus.now c.rows-row-items.result.now c.loop-row.rows.items
    c.loop-row.row-index c.rows-row-items.ensures c.loop-row-test.false c.loop-row.invariant
