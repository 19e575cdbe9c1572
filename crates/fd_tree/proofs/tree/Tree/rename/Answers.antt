use Rattle.std.proofs.Common.{◌≡◌, ◌∙◌, ap, sym, subst}
use Rattle.lens_specs.specs.Common.{AllEdges, renamed_tree, outputs}
use Rattle.fd_laws.proofs.Common.{IsTree}
use Rattle.fd_tree.specs.Sides.{HasLeft}
use Rattle.fd_tree.proofs.Renamed.{Lacks, tree_renamed, lefts_renamed}
use Rattle.fd_tree.proofs.tree.Tree.rename.Goals as goal

pub invariant_of-result : goal.invariant_of-result
invariant_of-result c =
    let T = c.self.inside.edges.items in
    let A = c.args.col.now in
    let B = c.args.to.now in
    let unread = subst (AllEdges (Lacks B)) (sym c.self.view_is) c.requires in
    let made : c.in_ok-edges.edges.items ≡ renamed_tree A B T = c.in_ok-edges.ensures ∙ ap (renamed_tree A B) c.deref.ensures.value in (
      c.in_ok-outputs.ensures ∙ ap outputs c.deref-2.ensures.value,
      subst (AllEdges HasLeft) (sym made) (lefts_renamed A B T c.self.invariant.1),
      subst IsTree (sym made) (tree_renamed A B T unread c.self.invariant.2),
    )
