use Rattle.std.proofs.Common.{◌∙◌, ap}
use Rattle.lens_specs.specs.Common.{edge, renamed_names, renamed_edge}
use Rattle.fd_tree.proofs.edge.Edge.rename.Goals as goal

pub returns : goal.returns
unfolding renamed_names
returns c = (λ i. edge (c.in_ok-rename.ensures i) (c.in_ok-rename-2.ensures i)) ∙ ap (renamed_edge c.args.col.now c.args.to.now) c.self.view_is
