use Rattle.std.proofs.Common.{ap, ◌∙◌}
use Rattle.lens_specs.specs.Common.{all_hold}
use Rattle.lens_pred.specs.View.{list_view}
use Rattle.lens_pred.proofs.Conjuncts.{holds-list_view}
use Rattle.lens_pred.proofs.pred.Pred.holds.Goals as goal

pub returns : goal.returns
returns c =
    c.all_hold.ensures ∙ ap (λ P. all_hold (list_view P) c.args.row.now) c.conjuncts.ensures.list ∙ holds-list_view c.args.self.now c.args.row.now
