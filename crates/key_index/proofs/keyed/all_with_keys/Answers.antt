use Rattle.std.proofs.Common.{ap, sym, ◌∙◌, subst}
use Rattle.plain_values.specs.SortedSet as set
use Rattle.key_index.specs.Lists.{AreKeyed, rows_of}
use Rattle.key_index.proofs.Adding.{front_more}
use Rattle.key_index.proofs.Fronts.{rows_pushed}
use Rattle.key_index.proofs.Lists.{pushed_keyed}
use Rattle.key_index.proofs.keyed.all_with_keys.Goals as goal

pub loop-row-preserved : goal.loop-row-preserved
loop-row-preserved c =
    let list = c.loop-row.list.items in
    let k = c.in_ok-with_keys.field-0 in
    let items = c.in_ok-push.ensures.items in (
      ap rows_of items ∙ rows_pushed list k ∙ (λ i. set.insert (c.loop-row.invariant.0 i) (c.in_ok-with_keys.ensures.row i))
          ∙ front_more c.args.rows.now c.loop-row.row-index c.row-item.result c.loop-row-test.true c.row-item.is,
      subst (AreKeyed c.args.indexes.now) (sym items) (pushed_keyed c.args.indexes.now list k c.loop-row.invariant.1 c.in_ok-with_keys.ensures.keys),
    )
