use Rattle.std.proofs.Common.{◌≡◌, ◌+◌, ◌-◌, ◌^◌, ◌≤◌, min, drop}
use Rattle.lens_specs.specs.Common.{nodes_of_all}
use Rattle.lens_pred.specs.View.{list_view, predicate_view}
use Rattle.lens_pred.proofs.+nodes.Given as goal

-- the sum so far and the nodes of what is left make up the whole
abbrev pub invariant-nodes::nodes_in-loop-member : goal.invariant-nodes::nodes_in-loop-member
invariant-nodes::nodes_in-loop-member l =
    (l.sum ≤ 2 ^ 64 - 1)
    × (min (l.sum + nodes_of_all (list_view (predicate_view (drop l.member-index l.members)))) (2 ^ 64 - 1)
    ≡ min (nodes_of_all (list_view (predicate_view l.members))) (2 ^ 64 - 1))
