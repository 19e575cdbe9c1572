use Rattle.std.proofs.Common.{◌-◌, ◌^◌, min, ap, ◌∙◌}
use Rattle.lens_specs.specs.Common.{nodes_of_all}
use Rattle.lens_pred.specs.View.{list_view}
use Rattle.lens_pred.proofs.Conjuncts.{nodes-list_view}
use Rattle.lens_pred.proofs.pred.Pred.nodes.Goals as goal

pub returns : goal.returns
returns c =
    c.nodes_in.ensures
    ∙ ap (λ n. min n (2 ^ 64 - 1)) (ap (λ P. nodes_of_all (list_view P)) c.conjuncts.ensures.list ∙ nodes-list_view c.args.self.now)
