use Rattle.lens_io.proofs.Taken.{Taken-failed, Taken-spent}
use Rattle.lens_io.proofs.laws.stops_give_whole_lines.Goals as goal

pub returns : goal.returns
returns c = record { failed = Taken-failed; spent = Taken-spent }
