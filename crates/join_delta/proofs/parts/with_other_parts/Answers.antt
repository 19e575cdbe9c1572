use Rattle.std.proofs.Common.{not, ◌∙◌}
use Rattle.plain_values.proofs.Common.{restrict, Row}
use Rattle.lens_specs.specs.Common.{has}
use Rattle.signed_delta.proofs.Looks.{passed_are, passed_rise}
use Rattle.join_delta.proofs.parts.with_other_parts.Goals as goal

pub from_rising-requires : goal.from_rising-requires
from_rising-requires c =
    let rest = λ (row : Row). not (has c.args.parts.now (restrict c.args.columns.now row)) in
    passed_rise rest c.args.rows.now c.rows-row-items.result.now c.loop-row.some.items c.loop-row.row-index c.rows-row-items.ensures c.loop-row-test.false c.loop-row.invariant

pub returns : goal.returns
returns c =
    let rest = λ (row : Row). not (has c.args.parts.now (restrict c.args.columns.now row)) in
    c.from_rising.ensures
    ∙ passed_are rest c.args.rows.now c.rows-row-items.result.now c.loop-row.some.items c.loop-row.row-index c.rows-row-items.ensures c.loop-row-test.false c.loop-row.invariant
