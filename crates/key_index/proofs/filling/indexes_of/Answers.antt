use Rattle.std.proofs.Common.{sym, subst, take}
use Rattle.key_index.specs.Lists.{HasKeys, IsTableOf, rows_of}
use Rattle.key_index.proofs.Fronts.{front_pushed}
use Rattle.key_index.proofs.Lists.{keeps_keys, same_trans}
use Rattle.key_index.proofs.filling.indexes_of.Goals as goal

pub put_each-requires : goal.put_each-requires
put_each-requires c =
    let k = c.keyed-item.result in
    record {
      keys = keeps_keys c.args.indexes.now c.loop-keyed.made.items k c.loop-keyed.invariant.1
          (subst (HasKeys c.args.indexes.now) (sym c.keyed-item.is) (c.requires c.loop-keyed.keyed-index k c.loop-keyed-test.true));
    }

pub loop-keyed-preserved : goal.loop-keyed-preserved
loop-keyed-preserved c =
    let list = c.args.list.now in
    let n = c.loop-keyed.keyed-index in (
      subst (λ rows. IsTableOf rows c.put_each.new.indexes.items) (front_pushed list n c.keyed-item.result c.loop-keyed-test.true c.keyed-item.is)
          (c.in_ok-put_each.ensures.ok (rows_of (take n list)) c.loop-keyed.invariant.0),
      same_trans _ _ _ c.loop-keyed.invariant.1 c.in_ok-put_each.ensures.cols,
    )
