use Rattle.std.proofs.Common.{◌≡◌, ◌∙◌, ap, sym, subst, IfOk}
use Rattle.lens_specs.specs.Common.{AllEdges, closure, Names, with_right}
use Rattle.fd_tree.specs.Sides.{HasLeft}
use Rattle.fd_tree.proofs.Closing.{closure_full}
use Rattle.fd_tree.proofs.tree.Tree.closure.Goals as goal

pub full-requires : goal.full-requires
full-requires c = subst (AllEdges HasLeft) (sym (c.in_ok-copied.ensures ∙ c.deref.ensures.value)) c.self.invariant.1

pub returns : goal.returns
returns c =
    let X = c.args.cols.now in
    let same = c.deref-2.ensures.value ∙ c.in_ok-deps.ensures ∙ ap with_right (c.in_ok-copied.ensures ∙ c.deref.ensures.value ∙ c.self.view_is) in
    let is = ap (closure X) same ∙ closure_full X c.args.self.now in
    subst (λ C. IfOk c.closure.result (λ (found : Names). found ≡ C)) is c.closure.ensures
