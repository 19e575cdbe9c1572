use Rattle.plain_values.proofs.Common.{entries_rise}
use Rattle.lens_values.proofs.columns.Columns.place_of.Goals as goal

pub place_in-requires : goal.place_in-requires
place_in-requires c = entries_rise c.args.self.now _ c.pairs.ensures
