use Rattle.lens_io.proofs.Causes.{at_end_only, too_long_only}
use Rattle.lens_io.proofs.laws.answers_have_causes.Goals as goal

pub returns : goal.returns
returns c = record { end = at_end_only; too_long = too_long_only }
