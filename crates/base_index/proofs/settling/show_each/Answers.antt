use Rattle.std.proofs.Common.{ap, sym, ◌∙◌}
use Rattle.plain_values.specs.SortedSet as set
use Rattle.key_index.proofs.Common.{no_row_less, one_more_less}
use Rattle.base_index.proofs.settling.show_each.Goals as goal

pub loop-row-init : goal.loop-row-init
loop-row-init c = sym (no_row_less c.args.hidden.now)

pub loop-row-preserved : goal.loop-row-preserved
loop-row-preserved c =
    c.remove.ensures ∙ ap (λ s. set.remove s c.row-item.result) c.loop-row.invariant
    ∙ one_more_less c.args.hidden.now c.args.list.now c.loop-row.row-index c.row-item.result c.loop-row-test.true c.row-item.is
