use Rattle.std.proofs.Common.{sym, ◌∙◌, find}
use Rattle.lens_specs.specs.Common.{names_in, names_of_all}
use Rattle.lens_pred.specs.Sought.{passes}
use Rattle.lens_pred.specs.View.{formula_view, list_view, predicate_view}
use Rattle.lens_pred.proofs.Walks.{at_item}
use Rattle.lens_pred.proofs.Conjuncts.{find_front, find_behind}
use Rattle.lens_pred.proofs.+first_name.Goals as goal

pub naming::first_name_in-returns-in-Some : goal.naming::first_name_in-returns-in-Some
naming::first_name_in-returns-in-Some t c =
    let p = passes c.args.sought in
    sym (
    sym c.loop-member.invariant
    ∙ at_item (λ ms. find p (names_of_all (list_view (predicate_view ms)))) c.args.members.now c.loop-member.member-index c.member-item.result c.loop-member-test.true c.member-item.is
    ∙ find_front p (names_in (formula_view c.member-item.result)) _ c.in-Some.name (sym c.in-Some.ensures)
    )

pub naming::first_name_in-loop-member-preserved : goal.naming::first_name_in-loop-member-preserved
naming::first_name_in-loop-member-preserved t c =
    let p = passes c.args.sought in
    sym (
    sym c.loop-member.invariant
    ∙ at_item (λ ms. find p (names_of_all (list_view (predicate_view ms)))) c.args.members.now c.loop-member.member-index c.member-item.result c.loop-member-test.true c.member-item.is
    ∙ find_behind p (names_in (formula_view c.member-item.result)) _ (sym c.first_name.ensures ∙ c.in_default.is)
    )
