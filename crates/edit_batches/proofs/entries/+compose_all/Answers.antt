use Rattle.std.proofs.Common.{◌∙◌, [], ◌++◌, map, sym, subst, take-append-drop}
use Rattle.signed_delta.specs.Tables.{table_delta}
use Rattle.edit_batches.specs.Histories.{deltas_of}
use Rattle.lens_specs.specs.Common.{LeadTo, composed}
use Rattle.edit_batches.specs.Chains.{Chain}
use Rattle.edit_batches.proofs.Chains.{halves_lead, if_ok, one_leads, one_of, two_lead, two_of}
use Rattle.edit_batches.proofs.entries.+compose_all.Goals as goal

pub returns-in-len1-clause-leads : goal.returns-in-len1-clause-leads
returns-in-len1-clause-leads t c =
    let one = c.one-item.result in
    let is = one_of c.args.entries.now one c.in-len1.len_at_least c.in-len1.len_below c.one-item.is in
    if_ok _ _ c.compose.result (λ both same a z chain. subst (λ l. LeadTo l a z) (sym same)
    (subst (λ ds. LeadTo (composed ds []) a z) (sym c.as_slice.ensures) (one_leads one.deltas a z (subst (λ es. Chain (map deltas_of es) a z) is chain))))
    c.compose.ensures.composed

pub returns-in-len2-clause-leads : goal.returns-in-len2-clause-leads
returns-in-len2-clause-leads t c =
    let one = c.one-item-then-entries-lt3.result in
    let next = c.next-item.result in
    let is = two_of c.args.entries.now one next c.in-len2.len_at_least c.in-len2.len_below c.one-item-then-entries-lt3.is c.next-item.is in
    if_ok _ _ c.compose-in-len2.result (λ both same a z chain. subst (λ l. LeadTo l a z)
    (sym (same ∙ (λ i. composed (c.as_slice-in-len2.ensures i) (c.as_slice-in-len2-2.ensures i))))
    (two_lead one.deltas next.deltas a z (subst (λ es. Chain (map deltas_of es) a z) is chain)))
    c.compose-in-len2.ensures.composed

pub returns-in_ok-second-in_default-clause-leads : goal.returns-in_ok-second-in_default-clause-leads
returns-in_ok-second-in_default-clause-leads t c =
    let halves = c.split_at.ensures in
    let front = c.split_at.result.0.now in
    let back = c.split_at.result.1.now in
    let parts = (λ i. halves.front i ++ halves.back i) ∙ take-append-drop _ c.args.entries.now in
    let ds = map table_delta c.in_ok-first-in_default.first.items in
    let es = map table_delta c.in_ok-second-in_default.second.items in
    if_ok _ _ c.compose-in_default.result (λ both same a z chain. subst (λ l. LeadTo l a z)
    (sym (same ∙ (λ i. composed (map table_delta (c.deref.ensures.value i)) (map table_delta (c.deref-in_default.ensures.value i)))))
    (halves_lead deltas_of c.args.entries.now front back ds es parts c.in_ok-first-in_default.ensures.leads c.in_ok-second-in_default.ensures.leads a z chain))
    c.compose-in_default.ensures.composed
