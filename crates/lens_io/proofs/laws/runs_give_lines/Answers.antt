use Rattle.lens_io.proofs.Taken.{Taken-run}
use Rattle.lens_io.proofs.laws.runs_give_lines.Goals as goal

pub returns : goal.returns
returns c = Taken-run
