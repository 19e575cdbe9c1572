use Rattle.lens_specs.specs.Common.{names, Within}
use Rattle.fd_tree.specs.Sides.{HasLeft}
use Rattle.edit_check.proofs.CheckedEdits.{edge_of, side_there}
use Rattle.edit_check.proofs.checking.violating_pair_of_edit.Goals as goal

pub pair_of_edit-requires-clause-some : goal.pair_of_edit-requires-clause-some
pair_of_edit-requires-clause-some g c =
    let edges = c.edges-edge-items in
    edge_of HasLeft c.args.tree.now edges.result.now c.loop-place.place c.edge-item.result edges.ensures.lefts edges.ensures.edges c.loop-place-test.true c.edge-item.is

pub pair_of_edit-requires-clause-have : goal.pair_of_edit-requires-clause-have
pair_of_edit-requires-clause-have g c = λ row there k in_left.
    let U = (g.K.Look.relation c.args.view.now).columns in
    let e = c.edge-item.result in
    let edges = c.edges-edge-items in
    let within = edge_of (λ k. Within k.left (names U)) c.args.tree.now edges.result.now c.loop-place.place e c.requires.columns edges.ensures.edges c.loop-place-test.true c.edge-item.is in
    side_there U e.left row within (c.requires.fit row there) k in_left
