use Rattle.std.proofs.Common.{◌∙◌, ◌++◌, ap}
use Rattle.plain_values.proofs.Common.{take_all}
use Rattle.lens_specs.specs.Common.{Sort}
use Rattle.lens_laws.proofs.Common.{left_sides, given_is}
use Rattle.lens_probe.proofs.needed.with_left_sides.Goals as goal

pub returns : goal.returns
returns c =
    let edges = take_all c.loop-edge.edge-index c.edges-edge-items.result.now c.loop-edge-test.false ∙ c.edges-edge-items.ensures.edges ∙ c.tree.ensures.value ∙ ap (λ (s : Sort). s.tree) (given_is c.args.lens.now c.sort.result.now c.sort.ensures.typed c.sort.ensures.given) in
    c.loop-edge.invariant ∙ ap (λ es. c.args.sets.items ++ left_sides es) edges
