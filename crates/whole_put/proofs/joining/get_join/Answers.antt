use Rattle.lens_specs.specs.Common.{join_get}
use Rattle.whole_put.proofs.joining.get_join.Goals as goal

pub returns : goal.returns
unfolding join_get
returns c = c.join.ensures
