use Rattle.std.proofs.Common.{◌≡◌, ◌∙◌, ◌++◌, ap, sym, None, Ok}
use Rattle.lens_specs.specs.Common.{unsteady, too_much}
use Rattle.lens_pred.specs.Checked.{checked}
use Rattle.lens_types.specs.Sorts.{sort_from}
use Rattle.lens_types.proofs.Selections.{size_refused, selection_taken}
use Rattle.lens_types.proofs.selecting.selected_pred.Goals as goal

pub returns-in-Some-size_fault : goal.returns-in-Some-size_fault
returns-in-Some-size_fault c =
    let s = c.args.source.now in
    let suits : checked s.columns c.args.pred.now ≡ Ok tt = ap (λ U. checked U c.args.pred.now) (sym c.cols.ensures.value) ∙ sym c.check.ensures ∙ c.in_ok-check.was in
    let none : None ≡ unsteady s.predicate s.tree = sym c.in_default.is ∙ c.in_ok-col.ensures ∙ (λ i. unsteady (c.pred.ensures.value i) (c.tree.ensures.value i)) in
    let both : c.in_ok-both.both ≡ s.predicate ++ c.args.pred.now = c.in_ok-both.ensures ∙ ap (λ Q. Q ++ c.args.pred.now) c.pred-2.ensures.value in
    rw c.from-in-Some-size_fault.ensures
    (size_refused c.args.nodes s c.args.pred.now c.in_ok-both.both c.in-Some-size_fault.fault suits none both
    (c.in-Some-size_fault.ensures s.tree ∙ ap (λ U. too_much c.args.nodes (sort_from U c.in_ok-both.both s.tree)) c.cols-2.ensures.value))

pub returns-in-None : goal.returns-in-None
returns-in-None c =
    let s = c.args.source.now in
    let suits : checked s.columns c.args.pred.now ≡ Ok tt = ap (λ U. checked U c.args.pred.now) (sym c.cols.ensures.value) ∙ sym c.check.ensures ∙ c.in_ok-check.was in
    let none : None ≡ unsteady s.predicate s.tree = sym c.in_default.is ∙ c.in_ok-col.ensures ∙ (λ i. unsteady (c.pred.ensures.value i) (c.tree.ensures.value i)) in
    let both : c.in_ok-both.both ≡ s.predicate ++ c.args.pred.now = c.in_ok-both.ensures ∙ ap (λ Q. Q ++ c.args.pred.now) c.pred-2.ensures.value in
    selection_taken c.args.nodes s c.args.pred.now c.in_ok-both.both suits none both
    (c.in-None.ensures s.tree ∙ ap (λ U. too_much c.args.nodes (sort_from U c.in_ok-both.both s.tree)) c.cols-2.ensures.value)
