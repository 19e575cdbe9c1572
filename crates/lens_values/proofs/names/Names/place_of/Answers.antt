use Rattle.plain_values.proofs.Common.{nat_list_cmp_total, exact, items_rise}
use Rattle.lens_values.proofs.names.Names.place_of.Goals as goal

pub place_in-requires : goal.place_in-requires
place_in-requires c = items_rise nat_list_cmp_total exact c.args.self.now _ c.as_slice.ensures
