use Rattle.std.proofs.Common.{ap, sym, ◌∙◌}
use Rattle.plain_values.specs.SortedSet as set
use Rattle.lens_specs.specs.Common.{has}
use Rattle.base_index.specs.Parts.{parts_of, rows_next}
use Rattle.key_index.proofs.Common.{in_list_at, no_row_less, one_more_less}
use Rattle.base_index.proofs.Bodies.{kept_itself, kept_twice}
use Rattle.base_index.proofs.body.Body.hide_each.Goals as goal

pub loop-row-init : goal.loop-row-init
loop-row-init c = (c.requires.whole, sym (no_row_less (rows_next (parts_of c.args.self.now))), kept_itself (parts_of c.args.self.now))

pub hide-requires-clause-seen : goal.hide-requires-clause-seen
hide-requires-clause-seen c =
    ap (λ s. has s c.row-item.result) c.loop-row.invariant.2.seen
    ∙ c.requires.seen c.row-item.result (in_list_at c.args.list.now c.loop-row.row-index c.row-item.result c.loop-row-test.true c.row-item.is)

pub returns-in_err-hide-clause-kept : goal.returns-in_err-hide-clause-kept
returns-in_err-hide-clause-kept c = kept_twice _ _ _ c.loop-row.invariant.2 c.in_err-hide.ensures.kept

pub loop-row-preserved : goal.loop-row-preserved
loop-row-preserved c = (
  c.in_ok-hide.ensures.whole,
  c.in_ok-hide.ensures.next ∙ ap (λ s. set.remove s c.row-item.result) c.loop-row.invariant.1
      ∙ one_more_less (rows_next (parts_of c.args.self.now)) c.args.list.now c.loop-row.row-index c.row-item.result c.loop-row-test.true c.row-item.is,
  kept_twice _ _ _ c.loop-row.invariant.2 c.in_ok-hide.ensures.kept,
)
