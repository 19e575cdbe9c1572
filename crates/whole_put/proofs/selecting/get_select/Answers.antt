use Rattle.lens_specs.specs.Common.{select_get}
use Rattle.whole_put.proofs.selecting.get_select.Goals as goal

pub returns : goal.returns
unfolding select_get
returns c = c.part.ensures.value
