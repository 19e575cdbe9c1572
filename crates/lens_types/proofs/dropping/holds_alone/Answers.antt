use Rattle.std.proofs.Common.{◌∙◌, ap}
use Rattle.lens_specs.specs.Common.{holds, with_at}
use Rattle.lens_types.proofs.dropping.holds_alone.Goals as goal

pub returns : goal.returns
unfolding with_at
returns c = c.holds.ensures ∙ ap (holds c.args.pred.now) c.in_ok-row.ensures
