use Rattle.std.proofs.Common.{ap, ◌∙◌}
use Rattle.plain_values.proofs.Common.{list_any, eq_by_cmp}
use Rattle.fd_closure.specs.Entries.{entry_cmp}
use Rattle.fd_closure.proofs.index.indexed.Goals as goal

pub returns-clause-members : goal.returns-clause-members
returns-clause-members c = λ e. c.into_sorted.ensures.members e ∙ ap (list_any (eq_by_cmp entry_cmp e)) c.in_ok-entries.ensures.list
