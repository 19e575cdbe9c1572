use Rattle.std.proofs.Common.{◌∙◌, ap}
use Rattle.lens_specs.specs.Common.{names, Sort}
use Rattle.lens_laws.proofs.Common.{given_is}
use Rattle.view_reading.proofs.reading.side.Goals as goal

pub returns-clause-cols : goal.returns-clause-cols
returns-clause-cols c =
    c.name_set-cols.ensures ∙ ap names (c.cols.ensures.value ∙ ap (λ (s : Sort). s.columns) (given_is c.args.lens.now c.sort.result.now c.sort.ensures.typed c.sort.ensures.given))
