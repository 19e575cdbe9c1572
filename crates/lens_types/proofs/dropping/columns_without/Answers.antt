use Rattle.lens_types.proofs.Drops.{exclude-one}
use Rattle.lens_types.proofs.dropping.columns_without.Goals as goal

pub returns : goal.returns
returns c = rw (← exclude-one c.args.cols.now c.args.col.now, ← c.in_ok-single.ensures) c.minus-2.ensures
