use Rattle.std.proofs.Common.{arith}
use Rattle.std.proofs.lemmas.List.{at_drop_all}
use Rattle.lens_specs.specs.Common.{nodes_of_all}
use Rattle.lens_pred.specs.View.{list_view, predicate_view}
use Rattle.lens_pred.proofs.+nodes.Goals as goal

pub nodes::nodes_in-returns : goal.nodes::nodes_in-returns
nodes::nodes_in-returns t c =
    omega (arith, at_drop_all (λ xs. nodes_of_all (list_view (predicate_view xs))) c.args.members.now c.loop-member.member-index (omega arith))
