use Rattle.lens_io.proofs.Taken.{Taken-ended, Taken-end}
use Rattle.lens_io.proofs.laws.end_gives_all_lines.Goals as goal

pub returns : goal.returns
returns c = record { taken = Taken-ended; known = Taken-end }
