use Rattle.std.proofs.Common.{rules}
use Rattle.plain_values.proofs.Common.{is_lt, answers_always, row_cmp, row_cmp_total}
use Rattle.row_sets.proofs.Rising.{rise_is}
use Rattle.row_sets.proofs.row_set.rise.Goals as goal

pub returns : goal.returns
returns c = rise_is row_cmp_total c.args.rows.now c.is_sorted_by.result (c.is_sorted_by.ensures.cases (λ x y. is_lt (row_cmp x y)) (answers_always _ _ _ (λ f a r f' k. search rules)))
