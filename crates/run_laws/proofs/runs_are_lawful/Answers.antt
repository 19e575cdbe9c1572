use Rattle.run_laws.proofs.Lawful.{runs_are_lawful}
use Rattle.run_laws.proofs.runs_are_lawful.Goals as goal

pub returns : goal.returns
returns c = runs_are_lawful
