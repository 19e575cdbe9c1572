use Rattle.std.proofs.Common.{rules, sym}
use Rattle.plain_values.proofs.Common.{nat_list_cmp_total, answers_always}
use Rattle.lens_values.proofs.Places.{searched_value, searched_nothing}
use Rattle.lens_values.proofs.columns.kind_in.Goals as goal

pub returns-in-Ok : goal.returns-in-Ok
returns-in-Ok c = sym (searched_value nat_list_cmp_total c.args.pairs.now c.args.name.now c.in-Ok.place c.index-pairs-place.result c.requires c.in-Ok.ensures.bound
    (c.in-Ok.ensures.position (λ pair. pair.0) (answers_always _ _ _ (λ f a r f' k. search rules))))

pub returns-in-Err : goal.returns-in-Err
returns-in-Err c = sym (searched_nothing nat_list_cmp_total c.args.pairs.now c.args.name.now c.in-Err.field-0 c.requires
    (c.in-Err.ensures.position (λ pair. pair.0) (answers_always _ _ _ (λ f a r f' k. search rules))))
