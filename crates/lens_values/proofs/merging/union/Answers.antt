use Rattle.std.proofs.Common.{◌≡◌, ◌++◌, ◌∙◌, sym, ap, subst, drop, refl, arith}
use Rattle.plain_values.proofs.Common.{on, KeysRise, first_with, Less, Equal, Greater}
use Rattle.lens_values.proofs.Walks.{merge, merged_all, merged_rises, first_with-merge, from_left, from_right, merge_ends, merge_ends_right, turn}
use Rattle.lens_values.proofs.merging.union.Goals as goal
use Rattle.lens_values.proofs.merging.union.Goals.{then-loop-i-test+else-j-right, else-loop-i-test}

pub loop-i-preserved-in-Less : goal.loop-i-preserved-in-Less
loop-i-preserved-in-Less g c = record {
  left_in_range = omega (arith, c.loop-i-test.true);
  right_in_range = c.loop-i.invariant.right_in_range;
  so_far = turn (on g.T.Keyed.key g.K.Ord.cmp) c.args.left.now c.args.right.now c.loop-i.all.items c.loop-i.i c.loop-i.j c.index-left-i.result c.index-right-j.result c.loop-i-test.true c.if-j-right.true c.index-left-i.is c.index-right-j.is Less _ c.index-left-i-in-Less.result _ _ _
      ((λ k. g.K.Ord.cmp (sym c.key.ensures k) (sym c.key-in-loop-i.ensures k)) ∙ sym c.cmp.ensures ∙ c.in-Less.is) refl
      (from_left (on g.T.Keyed.key g.K.Ord.cmp) c.args.left.now c.args.right.now c.loop-i.all.items c.loop-i.i c.loop-i.j c.index-left-i.result c.index-right-j.result c.loop-i-test.true c.if-j-right.true c.index-left-i.is c.index-right-j.is c.index-left-i-in-Less.result c.index-left-i-in-Less.is)
      c.in_ok-add_copy-in-Less.ensures c.loop-i.invariant.so_far;
}

pub loop-i-preserved-in-Greater : goal.loop-i-preserved-in-Greater
loop-i-preserved-in-Greater g c = record {
  left_in_range = c.loop-i.invariant.left_in_range;
  right_in_range = omega (arith, c.if-j-right.true);
  so_far = turn (on g.T.Keyed.key g.K.Ord.cmp) c.args.left.now c.args.right.now c.loop-i.all.items c.loop-i.i c.loop-i.j c.index-left-i.result c.index-right-j.result c.loop-i-test.true c.if-j-right.true c.index-left-i.is c.index-right-j.is Greater _ c.index-right-j-in-Greater.result _ _ _
      ((λ k. g.K.Ord.cmp (sym c.key.ensures k) (sym c.key-in-loop-i.ensures k)) ∙ sym c.cmp.ensures ∙ c.in-Greater.is) refl
      (from_right (on g.T.Keyed.key g.K.Ord.cmp) c.args.left.now c.args.right.now c.loop-i.all.items c.loop-i.i c.loop-i.j c.index-left-i.result c.index-right-j.result c.loop-i-test.true c.if-j-right.true c.index-left-i.is c.index-right-j.is c.index-right-j-in-Greater.result c.index-right-j-in-Greater.is)
      c.in_ok-add_copy-in-Greater.ensures c.loop-i.invariant.so_far;
}

pub loop-i-preserved : goal.loop-i-preserved
loop-i-preserved g c = record {
  left_in_range = omega (arith, c.loop-i-test.true);
  right_in_range = omega (arith, c.if-j-right.true);
  so_far = turn (on g.T.Keyed.key g.K.Ord.cmp) c.args.left.now c.args.right.now c.loop-i.all.items c.loop-i.i c.loop-i.j c.index-left-i.result c.index-right-j.result c.loop-i-test.true c.if-j-right.true c.index-left-i.is c.index-right-j.is Equal _ c.index-left-i-in-Equal.result _ _ _
      ((λ k. g.K.Ord.cmp (sym c.key.ensures k) (sym c.key-in-loop-i.ensures k)) ∙ sym c.cmp.ensures ∙ c.in-Equal.is) refl
      (from_left (on g.T.Keyed.key g.K.Ord.cmp) c.args.left.now c.args.right.now c.loop-i.all.items c.loop-i.i c.loop-i.j c.index-left-i.result c.index-right-j.result c.loop-i-test.true c.if-j-right.true c.index-left-i.is c.index-right-j.is c.index-left-i-in-Equal.result c.index-left-i-in-Equal.is)
      c.in_ok-add_copy-in-Equal.ensures c.loop-i.invariant.so_far;
}

pub returns : goal.returns
returns g c =
    let left = c.args.left.now in
    let right = c.args.right.now in
    let ends : merge (on g.T.Keyed.key g.K.Ord.cmp) (drop c.loop-i.i left) (drop c.loop-i.j right) ≡ drop c.loop-i.i left ++ drop c.loop-i.j right =
    elim c.loop-i-test.branch [
      | then-loop-i-test+else-j-right w ↦ merge_ends_right (on g.T.Keyed.key g.K.Ord.cmp) left right c.loop-i.i c.loop-i.j w.if-j-right.false
      | else-loop-i-test w ↦ merge_ends (on g.T.Keyed.key g.K.Ord.cmp) left right c.loop-i.i c.loop-i.j w.loop-i-test.false
    ] in
    let whole : c.append-2.new.list.items ≡ merge (on g.T.Keyed.key g.K.Ord.cmp) left right =
    merged_all (on g.T.Keyed.key g.K.Ord.cmp) left right c.loop-i.i c.loop-i.j c.loop-i.all.items c.append.new.list.items c.append-2.new.list.items _ ends c.in_ok-append.ensures c.in_ok-append-2.ensures c.loop-i.invariant.so_far in
    record {
      order = subst (KeysRise g.K.Ord.cmp g.T.Keyed.key) (sym whole) (merged_rises g.met.K.Ord.total g.T.Keyed.key left right c.requires.left c.requires.right);
      members = λ key. ap (λ l. first_with g.K.Ord.cmp g.T.Keyed.key l key) whole ∙ first_with-merge g.met.K.Ord.total g.T.Keyed.key left right key c.requires.left;
    }
