use Rattle.std.proofs.Common.{◌∙◌, ap}
use Rattle.lens_specs.specs.Common.{names, Sort}
use Rattle.lens_laws.proofs.Common.{given_is}
use Rattle.view_reading.proofs.columns.names_of.Goals as goal

pub returns : goal.returns
returns c = c.name_set.ensures ∙ ap names (c.cols.ensures.value ∙ ap (λ (s : Sort). s.columns) (given_is c.args.lens.now c.sort.result.now c.sort.ensures.typed c.sort.ensures.given))
