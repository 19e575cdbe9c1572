use Rattle.std.proofs.Common.{◌≡◌, ◌∙◌, ap, subst, sym}
use Rattle.plain_values.proofs.Common.{IsStrictlySortedBy, row_cmp}
use Rattle.plain_values.specs.SortedSet as set
use Rattle.lens_specs.specs.Common.{diff, minus}
use Rattle.signed_delta.specs.Disjoint.{AreApart}
use Rattle.signed_delta.proofs.Differences.{items_rise, sides_apart}
use Rattle.view_reading.specs.KnownRows.{unmarked}
use Rattle.view_reading.proofs.PartLists.{added_are, parts_of, removed_are, unmarked_rises}
use Rattle.view_reading.proofs.differing.Parts.difference.Goals as goal

pub from_rising-rest-requires : goal.from_rising-rest-requires
from_rising-rest-requires c =
    subst (IsStrictlySortedBy row_cmp) (sym c.in_ok-list.ensures) (unmarked_rises row_cmp c.deref.result.now c.rows.result.now (subst (IsStrictlySortedBy row_cmp) (sym c.rows.ensures) (items_rise c.args.known.now)))

pub new-requires-2 : goal.new-requires-2
new-requires-2 c =
    let p = c.args.self in
    let S = c.args.known.now in
    let rest = c.from_rising-rest.ensures ∙ ap set.from_list (c.in_ok-list.ensures ∙ (λ i. unmarked (c.deref.ensures.value i) (c.rows.ensures i))) in
    let come : c.in_ok-add.add ≡ minus S (parts_of p S) = c.in_ok-add.ensures ∙ (λ i. minus (rest i) (c.in_ok-others.ensures i)) ∙ added_are p S c.requires in
    let gone : c.in_ok-remove.remove ≡ minus (parts_of p S) S = c.in_ok-remove.ensures ∙ ap (λ M. minus M S) c.in_ok-others.ensures ∙ removed_are p S in
    subst (λ M. AreApart M c.in_ok-add.add) (sym gone) (subst (AreApart (minus (parts_of p S) S)) (sym come) (sides_apart (parts_of p S) S))

pub returns : goal.returns
unfolding diff
returns c =
    let p = c.args.self in
    let S = c.args.known.now in
    let rest = c.from_rising-rest.ensures ∙ ap set.from_list (c.in_ok-list.ensures ∙ (λ i. unmarked (c.deref.ensures.value i) (c.rows.ensures i))) in
    let come : c.in_ok-add.add ≡ minus S (parts_of p S) = c.in_ok-add.ensures ∙ (λ i. minus (rest i) (c.in_ok-others.ensures i)) ∙ added_are p S c.requires in
    let gone : c.in_ok-remove.remove ≡ minus (parts_of p S) S = c.in_ok-remove.ensures ∙ ap (λ M. minus M S) c.in_ok-others.ensures ∙ removed_are p S in
    c.new-2.ensures ∙ (λ i. record { remove = gone i; add = come i })
