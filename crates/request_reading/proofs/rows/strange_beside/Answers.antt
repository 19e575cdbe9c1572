use Rattle.std.proofs.Common.{◌∙◌, length, ap, sym}
use Rattle.request_reading.proofs.Columns.{none_beside}
use Rattle.request_reading.proofs.rows.strange_beside.Goals as goal

pub returns-then-members-pairs : goal.returns-then-members-pairs
returns-then-members-pairs c = sym (none_beside c.args.columns.now c.args.members.now (c.if-members-pairs.true ∙ ap length c.pairs.ensures) c.requires)
