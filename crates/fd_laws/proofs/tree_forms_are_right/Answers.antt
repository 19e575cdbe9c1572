use Rattle.fd_laws.proofs.TreeForms.{tree_of_is}
use Rattle.fd_laws.proofs.Outputs.{outputs_are}
use Rattle.fd_laws.proofs.tree_forms_are_right.Goals as goal

pub returns : goal.returns
returns c = record { tree = λ F T h. (tree_of_is F T h).0; same = λ F T h. (tree_of_is F T h).1; outputs = outputs_are }
