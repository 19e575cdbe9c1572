use Rattle.std.proofs.Common.{◌≡◌, drop, arith, false}
use Rattle.plain_values.proofs.Common.{Less, Equal, Greater}
use Rattle.lens_values.proofs.Walks.{kept, missing_all, missing_ends, missing_ends_right, missing_pushed, missing_equal, kept_past, pushed, ranked}
use Rattle.lens_values.proofs.merging.difference.Goals as goal
use Rattle.lens_values.proofs.merging.difference.Goals.{then-loop-i-test+else-j-keys, else-loop-i-test}

pub loop-i-preserved-in-Less : goal.loop-i-preserved-in-Less
loop-i-preserved-in-Less g c = record {
  list_in_range = omega (arith, c.loop-i-test.true);
  keys_in_range = c.loop-i.invariant.keys_in_range;
  so_far = missing_pushed g.met.K.Ord.total g.T.Keyed.key c.args.list.now c.loop-i.rest.items c.args.keys.now c.loop-i.i c.loop-i.j c.index-list-i.result c.index-keys-j.result c.loop-i-test.true c.if-j-keys.true c.index-list-i.is c.index-keys-j.is c.add_copy.new.list.items _
      (pushed g.met.K.Ord.total g.T.Keyed.key c.args.list.now c.loop-i.rest.items c.args.keys.now c.loop-i.i c.loop-i.j c.index-list-i.result c.index-keys-j.result c.loop-i-test.true c.if-j-keys.true c.index-list-i.is c.index-keys-j.is c.add_copy.new.list.items c.index-list-i-in-Less.result c.in_ok-add_copy-in-Less.ensures c.index-list-i-in-Less.is)
      c.requires.keys (ranked g.met.K.Ord.total g.T.Keyed.key c.args.list.now c.loop-i.rest.items c.args.keys.now c.loop-i.i c.loop-i.j c.index-list-i.result c.index-keys-j.result c.loop-i-test.true c.if-j-keys.true c.index-list-i.is c.index-keys-j.is _ _ Less c.key.ensures c.cmp.ensures c.in-Less.is) c.loop-i.invariant.so_far;
}

pub loop-i-preserved-in-Greater : goal.loop-i-preserved-in-Greater
loop-i-preserved-in-Greater g c = record {
  list_in_range = c.loop-i.invariant.list_in_range;
  keys_in_range = omega (arith, c.if-j-keys.true);
  so_far = kept_past g.met.K.Ord.total g.T.Keyed.key c.args.list.now c.loop-i.rest.items c.args.keys.now c.loop-i.i c.loop-i.j c.index-list-i.result c.index-keys-j.result c.loop-i-test.true c.if-j-keys.true c.index-list-i.is c.index-keys-j.is
      false _ c.requires.list (ranked g.met.K.Ord.total g.T.Keyed.key c.args.list.now c.loop-i.rest.items c.args.keys.now c.loop-i.i c.loop-i.j c.index-list-i.result c.index-keys-j.result c.loop-i-test.true c.if-j-keys.true c.index-list-i.is c.index-keys-j.is _ _ Greater c.key.ensures c.cmp.ensures c.in-Greater.is) c.loop-i.invariant.so_far;
}

pub loop-i-preserved : goal.loop-i-preserved
loop-i-preserved g c = record {
  list_in_range = omega (arith, c.loop-i-test.true);
  keys_in_range = omega (arith, c.if-j-keys.true);
  so_far = missing_equal g.met.K.Ord.total g.T.Keyed.key c.args.list.now c.loop-i.rest.items c.args.keys.now c.loop-i.i c.loop-i.j c.index-list-i.result c.index-keys-j.result c.loop-i-test.true c.if-j-keys.true c.index-list-i.is c.index-keys-j.is
      _ c.requires.list (ranked g.met.K.Ord.total g.T.Keyed.key c.args.list.now c.loop-i.rest.items c.args.keys.now c.loop-i.i c.loop-i.j c.index-list-i.result c.index-keys-j.result c.loop-i-test.true c.if-j-keys.true c.index-list-i.is c.index-keys-j.is _ _ Equal c.key.ensures c.cmp.ensures c.in-Equal.is) c.loop-i.invariant.so_far;
}

pub returns : goal.returns
returns g c =
    let list = c.args.list.now in
    let keys = c.args.keys.now in
    let ends : kept g.met.K.Ord.total g.T.Keyed.key false (drop c.loop-i.i list) (drop c.loop-i.j keys) ≡ drop c.loop-i.i list =
    elim c.loop-i-test.branch [
      | then-loop-i-test+else-j-keys w ↦ missing_ends_right g.met.K.Ord.total g.T.Keyed.key list keys c.loop-i.i c.loop-i.j w.if-j-keys.false
      | else-loop-i-test w ↦ missing_ends g.met.K.Ord.total g.T.Keyed.key list keys c.loop-i.i c.loop-i.j w.loop-i-test.false
    ] in
    missing_all g.met.K.Ord.total g.T.Keyed.key list keys c.loop-i.i c.loop-i.j c.loop-i.rest.items _ (kept g.met.K.Ord.total g.T.Keyed.key false list keys) ends c.in_ok-append.ensures c.loop-i.invariant.so_far
