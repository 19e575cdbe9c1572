use Rattle.std.proofs.Common.{◌++◌, ap, sym, ◌∙◌, subst}
use Rattle.plain_values.proofs.Common.{IsStrictlySortedBy, row_cmp, keys_rise}
use Rattle.plain_values.specs.SortedSet as set
use Rattle.edit_batches.proofs.uniting.joined.Goals as goal

pub rise_on-requires-clause-ones : goal.rise_on-requires-clause-ones
rise_on-requires-clause-ones c = subst (IsStrictlySortedBy row_cmp) (sym c.rows-ones.ensures) (keys_rise row_cmp c.args.one.now)

pub rise_on-requires-clause-others : goal.rise_on-requires-clause-others
rise_on-requires-clause-others c = subst (IsStrictlySortedBy row_cmp) (sym c.rows-others.ensures) (keys_rise row_cmp c.args.other.now)

pub returns : goal.returns
unfolding set.union
returns c =
    let ones = c.in_ok-append.ensures ∙ ap (λ l. l ++ c.rows-ones.result.now) c.in_ok-all.ensures.items in
    let all = c.in_ok-append-2.ensures ∙ ap (λ l. l ++ c.rows-others.result.now) ones in
    c.from_rising.ensures ∙ ap (λ l. set.from_list {R = row_cmp} l) (all ∙ (λ i. c.rows-ones.ensures i ++ c.rows-others.ensures i))
