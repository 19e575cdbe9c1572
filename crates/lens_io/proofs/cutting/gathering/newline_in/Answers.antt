use Rattle.std.proofs.lemmas.Bool.{eqb-true}
use Rattle.lens_io.proofs.Pieces.{none_there, first_there}
use Rattle.lens_io.proofs.cutting.gathering.newline_in.Goals as goal

pub returns-in-None : goal.returns-in-None
returns-in-None c = none_there _ (c.in-None.ensures)

pub returns-in-Some : goal.returns-in-Some
returns-in-Some c =
    let found = c.in-Some.ensures in
    first_there c.args.bytes.now c.args.from c.args.to c.in-Some.at c.requires.order c.requires.within found.0.high found.0.before (eqb-true _ _ found.1)
