use Rattle.std.proofs.Common.{◌≡◌, ◌∙◌, ℕ, ap, sym}
use Rattle.plain_values.proofs.Common.{iter_rest}
use Rattle.lens_laws.proofs.Common.{with_all}
use Rattle.database_opening.proofs.Stored.{all_made, last_made, made_of}
use Rattle.database_opening.proofs.opening.first_versions.Goals as goal

pub loop-kept-init : goal.loop-kept-init
loop-kept-init c =
    let tables = c.args.tables.now in
    let rest : iter_rest c.into_iter-kept-iterator.result.iter ≡ tables =
    ap (λ it. iter_rest it.iter) c.into_iter-kept-iterator.ensures.into_iter_gives ∙ ap iter_rest c.rev-kept-items.ensures.source ∙ c.iter.ensures.rest in
    (λ i. with_all (made_of {Y = ℕ} (λ _. 0) (rest i)) (c.new-last.ensures i)) ∙ all_made {Y = ℕ} (λ _. 0) tables

pub loop-kept-preserved : goal.loop-kept-preserved
loop-kept-preserved c =
    let left = iter_rest c.next.new.self.iter in
    let before = c.loop-kept.last in
    ap (with_all (made_of {Y = ℕ} (λ _. 0) left)) c.in_ok-set.ensures.ok ∙ sym (last_made {Y = ℕ} (λ _. 0) left c.in-Some.kept.now before)
    ∙ ap (λ ts. with_all (made_of {Y = ℕ} (λ _. 0) ts) before) (sym c.in-Some.ensures.steps) ∙ c.loop-kept.invariant
