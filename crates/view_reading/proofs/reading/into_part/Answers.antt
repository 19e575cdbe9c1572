use Rattle.std.proofs.Common.{◌∙◌, sym}
use Rattle.view_reading.proofs.KnownParts.{own_part, same_over}
use Rattle.view_reading.proofs.reading.into_part.Goals as goal

pub returns-then-same : goal.returns-then-same
returns-then-same c = own_part c.args.cols.now c.args.row (same_over c.args.cols.now c.names.result.now c.args.row c.names.ensures (sym c.same.ensures ∙ c.if-same.true))
