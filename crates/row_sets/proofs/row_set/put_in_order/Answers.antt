use Rattle.std.proofs.Common.{◌∙◌}
use Rattle.plain_values.proofs.Common.{take_at, IfOk-weaker, row_cmp_total}
use Rattle.row_sets.proofs.Rising.{moved_alike}
use Rattle.row_sets.proofs.row_set.put_in_order.Goals as goal

pub returns-then-rise-clause-members : goal.returns-then-rise-clause-members
returns-then-rise-clause-members c row =
    moved_alike row_cmp_total c.args.rows.items _ c.order_nearly.new.rows _ c.deref_mut.ensures.value c.order_nearly.ensures.rows (take_at c.order_nearly.new.rows _ c.args.rows.len (c.order_nearly.ensures.len ∙ c.deref_mut.ensures.len)) row

pub returns-then-ascend-clause-members : goal.returns-then-ascend-clause-members
returns-then-ascend-clause-members c row =
    c.each_once.ensures.members row
    ∙ moved_alike row_cmp_total c.args.rows.items _ c.order_nearly.new.rows _ c.deref_mut.ensures.value c.order_nearly.ensures.rows (take_at c.order_nearly.new.rows _ c.args.rows.len (c.order_nearly.ensures.len ∙ c.deref_mut.ensures.len)) row

pub returns-clause-members : goal.returns-clause-members
returns-clause-members c =
    IfOk-weaker c.sorted.result _ _ (λ rows members row.
    members row ∙ c.in_ok-by_rank.ensures row
    ∙ moved_alike row_cmp_total c.args.rows.items _ c.order_nearly.new.rows _ c.deref_mut.ensures.value c.order_nearly.ensures.rows (take_at c.order_nearly.new.rows _ c.args.rows.len (c.order_nearly.ensures.len ∙ c.deref_mut.ensures.len)) row)
    c.sorted.ensures.members
