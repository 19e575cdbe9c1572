use Rattle.std.proofs.Common.{◌∙◌, ap}
use Rattle.lens_laws.proofs.Common.{given_is}
use Rattle.lens_specs.specs.Common.{sort_of}
use Rattle.opened_view.proofs.opened.Opened.sort.Goals as goal

pub returns-clause-sort : goal.returns-clause-sort
returns-clause-sort c = given_is c.lens.result.now c.sort.result.now c.sort.ensures.typed c.sort.ensures.given ∙ ap sort_of c.lens.ensures.lens
