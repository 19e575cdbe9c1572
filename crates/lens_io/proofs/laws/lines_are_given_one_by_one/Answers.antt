use Rattle.lens_io.proofs.Taken.{Taken-nil, Taken-line, Taken-too_long}
use Rattle.lens_io.proofs.laws.lines_are_given_one_by_one.Goals as goal

pub returns : goal.returns
returns c = record { none = Taken-nil; line = Taken-line; too_long = Taken-too_long }
