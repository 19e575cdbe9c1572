use Rattle.std.proofs.Common.{◌≡◌, Some, None, Ok, ap, sym, subst, true, ◌∙◌, not, position}
use Rattle.plain_values.proofs.Common.{list_all}
use Rattle.lens_specs.specs.Common.{without_name, formula_mentions, first_mixed, with_name, is_mixed}
use Rattle.lens_pred.specs.NormalForm.{is_conjunct}
use Rattle.lens_pred.specs.Split.{split_from}
use Rattle.lens_pred.specs.View.{formula_view}
use Rattle.lens_pred.proofs.Conjuncts.{all_of_kept, position-is_mixed, position-map}
use Rattle.lens_pred.proofs.pred.Pred.split_on.Goals as goal

pub returns-in-Some : goal.returns-in-Some
returns-in-Some c =
    let A = c.args.col.now in
    let P = c.args.self.now in
    let mixed : first_mixed A P ≡ Some c.in-Some.index =
    sym (position-is_mixed A P) ∙ ap (position (is_mixed A)) (sym c.conjuncts-all.ensures.list) ∙ position-map (is_mixed A) formula_view c.conjuncts-all.result.now
    ∙ sym c.first_mixed.ensures ∙ c.in-Some.is in
    λ _. ap (λ o. split_from o A P) mixed

pub from_normal-requires : goal.from_normal-requires
from_normal-requires c =
    let A = c.args.col.now in
    let part = c.in_ok-with.ensures.with ∙ ap (with_name A) c.conjuncts-all.ensures.list in
    subst (λ Q. list_all is_conjunct Q ≡ true) (sym part) (all_of_kept is_conjunct (λ f. formula_mentions f A) c.args.self.now c.conjuncts-all.ensures.normal)

pub from_normal-requires-2 : goal.from_normal-requires-2
from_normal-requires-2 c =
    let A = c.args.col.now in
    let part = c.in_ok-with.ensures.without ∙ ap (without_name A) c.conjuncts-all.ensures.list in
    subst (λ Q. list_all is_conjunct Q ≡ true) (sym part) (all_of_kept is_conjunct (λ f. not (formula_mentions f A)) c.args.self.now c.conjuncts-all.ensures.normal)

pub returns : goal.returns
returns c =
    let A = c.args.col.now in
    let P = c.args.self.now in
    let unmixed : first_mixed A P ≡ None =
    sym (position-is_mixed A P) ∙ ap (position (is_mixed A)) (sym c.conjuncts-all.ensures.list) ∙ position-map (is_mixed A) formula_view c.conjuncts-all.result.now
    ∙ sym c.first_mixed.ensures ∙ c.in_default.is in
    let with = c.from_normal.ensures ∙ c.in_ok-with.ensures.with ∙ ap (with_name A) c.conjuncts-all.ensures.list in
    let without = c.from_normal-2.ensures ∙ c.in_ok-with.ensures.without ∙ ap (without_name A) c.conjuncts-all.ensures.list in
    ap (λ o. split_from o A P) unmixed ∙ (λ i. Ok (sym with i, sym without i))
