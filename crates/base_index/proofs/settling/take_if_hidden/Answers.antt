use Rattle.std.proofs.Common.{sym, ◌∙◌}
use Rattle.key_index.proofs.Lists.{none_removed}
use Rattle.base_index.proofs.settling.take_if_hidden.Goals as goal

pub returns-else-has-clause-hidden : goal.returns-else-has-clause-hidden
returns-else-has-clause-hidden c = sym (none_removed c.args.hidden.now c.args.keyed.now.row (sym c.has.ensures ∙ c.if-has.false))
