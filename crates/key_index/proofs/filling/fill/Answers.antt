use Rattle.std.proofs.Common.{◌+◌, ap, ◌∙◌, subst, arith, take}
use Rattle.plain_values.specs.SortedSet as set
use Rattle.key_index.specs.Lists.{IsTableOf, set_of}
use Rattle.key_index.proofs.Lists.{same_trans}
use Rattle.key_index.proofs.Adding.{front_more}
use Rattle.key_index.proofs.filling.fill.Goals as goal

pub returns-in_err-put_each-clause-cols : goal.returns-in_err-put_each-clause-cols
returns-in_err-put_each-clause-cols g c = same_trans _ _ _ c.loop-row.invariant.1 c.in_err-put_each.ensures.cols

pub loop-row-preserved : goal.loop-row-preserved
loop-row-preserved g c =
    let front = front_more c.args.rows.now c.loop-row.row-index c.row-item.result c.loop-row-test.true c.row-item.is in (
      subst (λ rows. IsTableOf rows c.put_each.new.indexes.items) (ap (set.insert (set_of (take c.loop-row.row-index c.args.rows.now))) c.in_ok-keyed.ensures.row ∙ front)
          (c.in_ok-put_each.ensures.ok (set_of (take c.loop-row.row-index c.args.rows.now)) c.loop-row.invariant.0),
      same_trans _ _ _ c.loop-row.invariant.1 c.in_ok-put_each.ensures.cols,
      c.tick.ensures ∙ ap (λ n. n + 1) c.loop-row.invariant.2 ∙ omega arith,
    )
