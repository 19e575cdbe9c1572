use Rattle.std.proofs.Common.{rules, ◌∙◌}
use Rattle.plain_values.proofs.Common.{nat_list_cmp_total, answers_always}
use Rattle.lens_values.proofs.Places.{searched_place}
use Rattle.lens_values.proofs.columns.place_in.Goals as goal

pub returns : goal.returns
returns c = c.ok.ensures.value ∙ searched_place nat_list_cmp_total (λ pair. pair.0) c.args.pairs.now c.args.name.now c.binary_search_by_key.result c.requires c.binary_search_by_key.ensures.bound
    (c.binary_search_by_key.ensures.position (λ pair. pair.0) (answers_always _ _ _ (λ f a r f' k. search rules)))
