use Rattle.lens_io.proofs.Taken.{Taken-front}
use Rattle.lens_io.proofs.laws.given_lines_are_first.Goals as goal

pub returns : goal.returns
returns c = Taken-front
