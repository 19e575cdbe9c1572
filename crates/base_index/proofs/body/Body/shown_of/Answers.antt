use Rattle.std.proofs.Common.{◌∙◌, not}
use Rattle.plain_values.specs.SortedSet as set
use Rattle.lens_specs.specs.Common.{has}
use Rattle.signed_delta.proofs.Looks.{missing_are, passed_are, passed_rise}
use Rattle.base_index.specs.Parts.{parts_of, to_go}
use Rattle.base_index.proofs.body.Body.shown_of.Goals as goal

pub from_rising-requires : goal.from_rising-requires
from_rising-requires c = passed_rise (λ row. not (has (set.difference c.args.self.now.hidden (to_go (parts_of c.args.self.now))) row)) c.args.rows.now c.rows-row-items.result.now c.loop-row.some.items
    c.loop-row.row-index c.rows-row-items.ensures c.loop-row-test.false c.loop-row.invariant

pub returns : goal.returns
returns c =
    c.from_rising.ensures ∙ passed_are (λ row. not (has (set.difference c.args.self.now.hidden (to_go (parts_of c.args.self.now))) row)) c.args.rows.now c.rows-row-items.result.now c.loop-row.some.items
    c.loop-row.row-index c.rows-row-items.ensures c.loop-row-test.false c.loop-row.invariant
    ∙ missing_are c.args.rows.now (set.difference c.args.self.now.hidden (to_go (parts_of c.args.self.now)))
