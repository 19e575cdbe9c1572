use Rattle.std.proofs.Common.{◌≡◌, [], drop, arith, true}
use Rattle.plain_values.proofs.Common.{Less, Equal, Greater}
use Rattle.lens_values.proofs.Walks.{kept, common_all, common_ends, common_ends_right, common_less, common_pushed, kept_past, pushed, ranked}
use Rattle.lens_values.proofs.merging.intersection.Goals as goal
use Rattle.lens_values.proofs.merging.intersection.Goals.{then-loop-i-test+else-j-keys, else-loop-i-test}

pub loop-i-preserved-in-Less : goal.loop-i-preserved-in-Less
loop-i-preserved-in-Less g c = record {
  list_in_range = omega (arith, c.loop-i-test.true);
  keys_in_range = c.loop-i.invariant.keys_in_range;
  so_far = common_less g.met.K.Ord.total g.T.Keyed.key c.args.list.now c.loop-i.kept.items c.args.keys.now c.loop-i.i c.loop-i.j c.index-list-i.result c.index-keys-j.result c.loop-i-test.true c.if-j-keys.true c.index-list-i.is c.index-keys-j.is
      _ c.requires.keys (ranked g.met.K.Ord.total g.T.Keyed.key c.args.list.now c.loop-i.kept.items c.args.keys.now c.loop-i.i c.loop-i.j c.index-list-i.result c.index-keys-j.result c.loop-i-test.true c.if-j-keys.true c.index-list-i.is c.index-keys-j.is _ _ Less c.key.ensures c.cmp.ensures c.in-Less.is) c.loop-i.invariant.so_far;
}

pub loop-i-preserved-in-Greater : goal.loop-i-preserved-in-Greater
loop-i-preserved-in-Greater g c = record {
  list_in_range = c.loop-i.invariant.list_in_range;
  keys_in_range = omega (arith, c.if-j-keys.true);
  so_far = kept_past g.met.K.Ord.total g.T.Keyed.key c.args.list.now c.loop-i.kept.items c.args.keys.now c.loop-i.i c.loop-i.j c.index-list-i.result c.index-keys-j.result c.loop-i-test.true c.if-j-keys.true c.index-list-i.is c.index-keys-j.is
      true _ c.requires.list (ranked g.met.K.Ord.total g.T.Keyed.key c.args.list.now c.loop-i.kept.items c.args.keys.now c.loop-i.i c.loop-i.j c.index-list-i.result c.index-keys-j.result c.loop-i-test.true c.if-j-keys.true c.index-list-i.is c.index-keys-j.is _ _ Greater c.key.ensures c.cmp.ensures c.in-Greater.is) c.loop-i.invariant.so_far;
}

pub loop-i-preserved : goal.loop-i-preserved
loop-i-preserved g c = record {
  list_in_range = omega (arith, c.loop-i-test.true);
  keys_in_range = omega (arith, c.if-j-keys.true);
  so_far = common_pushed g.met.K.Ord.total g.T.Keyed.key c.args.list.now c.loop-i.kept.items c.args.keys.now c.loop-i.i c.loop-i.j c.index-list-i.result c.index-keys-j.result c.loop-i-test.true c.if-j-keys.true c.index-list-i.is c.index-keys-j.is c.add_copy.new.list.items _
      (pushed g.met.K.Ord.total g.T.Keyed.key c.args.list.now c.loop-i.kept.items c.args.keys.now c.loop-i.i c.loop-i.j c.index-list-i.result c.index-keys-j.result c.loop-i-test.true c.if-j-keys.true c.index-list-i.is c.index-keys-j.is c.add_copy.new.list.items c.index-list-i-in-Equal.result c.in_ok-add_copy-in-Equal.ensures c.index-list-i-in-Equal.is)
      c.requires.list (ranked g.met.K.Ord.total g.T.Keyed.key c.args.list.now c.loop-i.kept.items c.args.keys.now c.loop-i.i c.loop-i.j c.index-list-i.result c.index-keys-j.result c.loop-i-test.true c.if-j-keys.true c.index-list-i.is c.index-keys-j.is _ _ Equal c.key.ensures c.cmp.ensures c.in-Equal.is) c.loop-i.invariant.so_far;
}

pub returns : goal.returns
returns g c =
    let list = c.args.list.now in
    let keys = c.args.keys.now in
    let ends : kept g.met.K.Ord.total g.T.Keyed.key true (drop c.loop-i.i list) (drop c.loop-i.j keys) ≡ [] =
    elim c.loop-i-test.branch [
      | then-loop-i-test+else-j-keys w ↦ common_ends_right g.met.K.Ord.total g.T.Keyed.key list keys c.loop-i.i c.loop-i.j w.if-j-keys.false
      | else-loop-i-test w ↦ common_ends g.met.K.Ord.total g.T.Keyed.key list keys c.loop-i.i c.loop-i.j w.loop-i-test.false
    ] in
    common_all g.met.K.Ord.total g.T.Keyed.key list keys c.loop-i.i c.loop-i.j c.loop-i.kept.items (kept g.met.K.Ord.total g.T.Keyed.key true list keys) ends c.loop-i.invariant.so_far
