use Rattle.std.proofs.Common.{◌∙◌, ℕ, ap, sym}
use Rattle.lens_specs.specs.Common.{Name}
use Rattle.lens_laws.proofs.Common.{with_all, with_all_in_none, with_last}
use Rattle.opened_view.proofs.last_changes.LastChanges.copy.Goals as goal

pub loop-table-init : goal.loop-table-init
loop-table-init c =
    let rest = ap (λ it. it.iter) c.into_iter-table-iterator.ensures.into_iter_gives ∙ c.rev-table-items.ensures.source ∙ c.iter.ensures.rest in
    (λ i. with_all (rest i) (c.new-copy.ensures i)) ∙ with_all_in_none c.self.inside.versions.entries ∙ c.self.view_is

pub loop-table-preserved : goal.loop-table-preserved
loop-table-preserved c =
    let e : Name × ℕ = (c.in-Some.table.now, c.in-Some.version.now) in
    ap (with_all c.next.new.self.iter) c.in_ok-set.ensures.ok
    ∙ sym (with_last c.next.new.self.iter e c.loop-table.copy)
    ∙ ap (λ es. with_all es c.loop-table.copy) (sym c.in-Some.ensures.steps)
    ∙ c.loop-table.invariant

pub returns : goal.returns
returns c = ap (λ es. with_all es c.loop-table.copy) (sym c.in-None.ensures.steps.0) ∙ c.loop-table.invariant
