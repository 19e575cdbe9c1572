use Rattle.std.proofs.Common.{◌≡◌, ap, sym, subst, ◌∙◌, arith, IfOk}
use Rattle.lens_specs.specs.Common.{has, compose_delta}
use Rattle.edit_batches.specs.Chains.{no_change}
use Rattle.edit_batches.proofs.RowSets.{contained}
use Rattle.edit_batches.proofs.Unions.{nothing_then, then_nothing}
use Rattle.edit_batches.proofs.composing.composed_of.Goals as goal

pub new-requires : goal.new-requires
new-requires c = λ row there. let none = ap (λ s. has s row) c.empty-in-None-None.ensures in grind (arith, contained, none)

pub returns-in-Some-None : goal.returns-in-Some-None
returns-in-Some-None c =
    let it = c.in-Some-None in
    let is = sym (λ i. compose_delta (it.ensures i) (it.ensures' i)) ∙ then_nothing it.before.now in
    subst (λ d. IfOk c.copy.result (λ both. both ≡ d)) (sym is) c.copy.ensures

pub returns-in-None-Some : goal.returns-in-None-Some
returns-in-None-Some c =
    let it = c.in-None-Some in
    let is = sym (λ i. compose_delta (it.ensures i) (it.ensures' i)) ∙ nothing_then it.later.now in
    subst (λ d. IfOk c.copy-in-None-Some.result (λ both. both ≡ d)) (sym is) c.copy-in-None-Some.ensures

pub returns-in-None-None : goal.returns-in-None-None
returns-in-None-None c =
    let it = c.in-None-None in
    c.new.ensures ∙ (λ i. record { remove = c.empty.ensures i; add = c.empty-in-None-None.ensures i })
    ∙ sym (then_nothing no_change) ∙ (λ i. compose_delta (it.ensures i) (it.ensures' i))
