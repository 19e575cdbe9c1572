use Rattle.std.proofs.Common.{◌∙◌, sym}
use Rattle.join_delta.proofs.NoRows.{unchanged}
use Rattle.join_delta.proofs.over.changed.Goals as goal

pub returns-then-is_empty : goal.returns-then-is_empty
returns-then-is_empty c = sym (unchanged c.args.rows c.args.change.now (sym c.is_empty.ensures ∙ c.if-is_empty.true))
