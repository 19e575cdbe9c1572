use Rattle.lens_io.proofs.Progress.{shorter}
use Rattle.lens_io.proofs.laws.runs_end.Goals as goal

pub returns : goal.returns
returns c = shorter
