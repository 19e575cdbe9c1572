use Rattle.rehearsal.proofs.Points.{Halted-first, on_err}
use Rattle.rehearsal.proofs.rehearsing.read.Goals as goal

pub returns-in_err-line-clause-halted : goal.returns-in_err-line-clause-halted
returns-in_err-line-clause-halted g c = on_err c.from_residual.result _ (Halted-first _ _ c.requires.told)
