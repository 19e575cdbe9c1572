use Rattle.std.proofs.Common.{◌≡◌, ◌+◌, ◌++◌, ◌∙◌, ap, sym, subst, take, drop, take-append-drop, arith}
use Rattle.plain_values.proofs.Common.{Less, Greater, IsStrictlySortedBy, row_cmp, row_cmp_total, keys_rise}
use Rattle.signed_delta.proofs.Differences.{turned_apart}
use Rattle.row_sets.proofs.Walks.{keep_greater, keep_less, rest_ends, rest_ends_right, rest_of}
use Rattle.edit_batches.proofs.Unions.{behind_apart, one_kept, rest_apart}
use Rattle.edit_batches.proofs.uniting.meet.Goals as goal
use Rattle.edit_batches.proofs.uniting.meet.Goals.{then-rise_on-via-then-rise_on, then-rise_on-via-else-rise_on+then-rise_on-2}

pub rise_on-requires-clause-ones : goal.rise_on-requires-clause-ones
rise_on-requires-clause-ones c = subst (IsStrictlySortedBy row_cmp) (sym c.rows-ones.ensures) (keys_rise row_cmp c.args.one.now)

pub rise_on-requires-clause-others : goal.rise_on-requires-clause-others
rise_on-requires-clause-others c = subst (IsStrictlySortedBy row_cmp) (sym c.rows-others.ensures) (keys_rise row_cmp c.args.other.now)

pub rise_on-requires-else-rise_on-clause-ones : goal.rise_on-requires-else-rise_on-clause-ones
rise_on-requires-else-rise_on-clause-ones c = subst (IsStrictlySortedBy row_cmp) (sym c.rows-others.ensures) (keys_rise row_cmp c.args.other.now)

pub rise_on-requires-else-rise_on-clause-others : goal.rise_on-requires-else-rise_on-clause-others
rise_on-requires-else-rise_on-clause-others c = subst (IsStrictlySortedBy row_cmp) (sym c.rows-ones.ensures) (keys_rise row_cmp c.args.one.now)

pub returns-then-rise_on : goal.returns-then-rise_on
returns-then-rise_on c = λ _.
    let M = c.args.one.now in
    let N = c.args.other.now in
    elim c.then-rise_on.branch [
      | then-rise_on-via-then-rise_on w ↦ behind_apart M N
          (subst (IsStrictlySortedBy row_cmp) (λ i. c.rows-ones.ensures i ++ c.rows-others.ensures i) (c.rise_on.ensures w.if-rise_on.true))
      | then-rise_on-via-else-rise_on+then-rise_on-2 w ↦ turned_apart N M (behind_apart N M
          (subst (IsStrictlySortedBy row_cmp) (λ i. c.rows-others.ensures i ++ c.rows-ones.ensures i) (w.rise_on-else-rise_on.ensures w.if-rise_on-2.true)))
    ]

pub loop-i-preserved-in-Less : goal.loop-i-preserved-in-Less
loop-i-preserved-in-Less c =
    let i = c.loop-i.i in
    let j = c.loop-i.j in
    let ones = c.rows-ones.result.now in
    let others = c.rows-others.result.now in
    let rise = subst (IsStrictlySortedBy row_cmp) (sym c.rows-others.ensures) (keys_rise row_cmp c.args.other.now) in
    let before : row_cmp c.index-ones-i.result c.index-others-j.result ≡ Less = sym c.cmp.ensures ∙ c.in-Less.is in record {
      in_range = omega (arith, c.loop-i-test.true);
      others_in_range = c.loop-i.invariant.others_in_range;
      kept = sym (one_kept ones i c.index-ones-i.result (rest_of row_cmp (drop (i + 1) ones) (drop j others)) c.loop-i-test.true c.index-ones-i.is)
          ∙ keep_less row_cmp_total ones others (take i ones) i j c.index-ones-i.result c.index-others-j.result c.loop-i-test.true c.if-j-others.true c.index-ones-i.is c.index-others-j.is
          _ rise before c.loop-i.invariant.kept;
    }

pub loop-i-preserved : goal.loop-i-preserved
loop-i-preserved c =
    let i = c.loop-i.i in
    let j = c.loop-i.j in
    let ones = c.rows-ones.result.now in
    let others = c.rows-others.result.now in
    let rise = subst (IsStrictlySortedBy row_cmp) (sym c.rows-ones.ensures) (keys_rise row_cmp c.args.one.now) in
    let after : row_cmp c.index-ones-i.result c.index-others-j.result ≡ Greater = sym c.cmp.ensures ∙ c.in-Greater.is in record {
      in_range = c.loop-i.invariant.in_range;
      others_in_range = omega (arith, c.if-j-others.true);
      kept = keep_greater row_cmp_total ones others (take i ones) i j c.index-ones-i.result c.index-others-j.result c.loop-i-test.true c.if-j-others.true c.index-ones-i.is c.index-others-j.is
          _ rise after c.loop-i.invariant.kept;
    }

pub returns-else-j-others : goal.returns-else-j-others
returns-else-j-others c = λ _.
    let ones = c.rows-ones.result.now in
    let ends : rest_of row_cmp ones c.rows-others.result.now ≡ ones = sym c.loop-i.invariant.kept
    ∙ ap (λ l. take c.loop-i.i ones ++ l) (rest_ends_right row_cmp ones c.rows-others.result.now c.loop-i.i c.loop-i.j c.if-j-others.false) ∙ take-append-drop c.loop-i.i ones in
    rest_apart c.args.one.now c.args.other.now (sym (λ i. rest_of row_cmp (c.rows-ones.ensures i) (c.rows-others.ensures i)) ∙ ends ∙ c.rows-ones.ensures)

pub returns-after-loop-i : goal.returns-after-loop-i
returns-after-loop-i c = λ _.
    let ones = c.rows-ones.result.now in
    let ends : rest_of row_cmp ones c.rows-others.result.now ≡ ones = sym c.loop-i.invariant.kept
    ∙ ap (λ l. take c.loop-i.i ones ++ l) (rest_ends row_cmp ones c.rows-others.result.now c.loop-i.i c.loop-i.j c.loop-i-test.false) ∙ take-append-drop c.loop-i.i ones in
    rest_apart c.args.one.now c.args.other.now (sym (λ i. rest_of row_cmp (c.rows-ones.ensures i) (c.rows-others.ensures i)) ∙ ends ∙ c.rows-ones.ensures)
