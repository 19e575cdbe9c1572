use Rattle.std.proofs.Common.{◌≡◌, take}
use Rattle.lens_specs.specs.Common.{renamed_tree}
use Rattle.fd_tree.proofs.tree.edges_renamed.Given as goal

abbrev pub invariant-loop-edge : goal.invariant-loop-edge
invariant-loop-edge l = l.list.items ≡ renamed_tree l.col l.to (take l.edge-index l.edges)
