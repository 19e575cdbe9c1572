use Rattle.std.proofs.Common.{ap, ◌∙◌, find}
use Rattle.lens_specs.specs.Common.{names_of_all}
use Rattle.lens_pred.specs.Sought.{passes}
use Rattle.lens_pred.specs.View.{list_view}
use Rattle.lens_pred.proofs.Conjuncts.{names-list_view}
use Rattle.lens_pred.proofs.pred.Pred.first_name.Goals as goal

pub returns : goal.returns
returns c =
    c.first_name_in.ensures
    ∙ ap (find (passes c.args.sought)) (ap (λ P. names_of_all (list_view P)) c.conjuncts.ensures.list ∙ names-list_view c.args.self.now)
