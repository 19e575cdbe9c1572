use Rattle.std.proofs.Common.{sym, ◌∙◌}
use Rattle.fd_laws.proofs.Relations.{same_rel}
use Rattle.fd_laws.proofs.relations_are_sets.Goals as goal

pub returns : goal.returns
returns c = λ M N h. same_rel M N (λ r i. sym (h r) ∙ i) (λ r i. h r ∙ i)
