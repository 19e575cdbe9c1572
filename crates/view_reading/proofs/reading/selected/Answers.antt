use Rattle.std.proofs.Common.{rules}
use Rattle.plain_values.proofs.Common.{filter_same}
use Rattle.lens_specs.specs.Common.{holds}
use Rattle.view_reading.proofs.reading.selected.Goals as goal

pub returns : goal.returns
returns c = filter_same _ (holds c.args.pred.now) _ (λ x b f' k. search rules) _ _ c.retain.ensures.filtered
