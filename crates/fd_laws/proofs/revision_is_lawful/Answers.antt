use Rattle.fd_laws.proofs.Trees.{merge_meets, revise_keeps, revise_distinct}
use Rattle.fd_laws.proofs.revision_is_lawful.Goals as goal

pub returns : goal.returns
returns c = record { meets = merge_meets; keeps = revise_keeps; distinct = revise_distinct }
