use Rattle.std.proofs.Common.{ap, length}
use Rattle.lens_values.proofs.names.Names.len.Goals as goal

pub returns : goal.returns
returns c = ap length c.as_slice.ensures
