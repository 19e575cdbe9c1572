use Rattle.std.proofs.Common.{◌≡◌, ◌<◌, ap, ◌∙◌, subst, arith, [], length, rules, slice_index_or}
use Rattle.key_index.specs.declared.index.Index.{Index}
use Rattle.key_index.specs.Key.{Cells}
use Rattle.key_index.proofs.Lists.{inside}
use Rattle.key_index.proofs.Replaced.{done_more, left_more, same_more}
use Rattle.key_index.specs.Index.{IsTaken}
use Rattle.key_index.proofs.Taken.{index_taken}
use Rattle.key_index.proofs.keyed.take_each.Goals as goal

pub returns-clause-taken : goal.returns-clause-taken
returns-clause-taken c = λ rows mixed i d within.
    let same = c.loop-i.invariant.0 in
    let row = c.args.keyed.now.row in
    index_taken rows row (slice_index_or c.args.indexes.now.items i d) (slice_index_or c.loop-i.indexes.items i d)
    (same.each i d d (omega (arith, same.many)))
    (subst (λ key. IsTaken key row (slice_index_or c.args.indexes.now.items i d) (slice_index_or c.loop-i.indexes.items i d)) (c.requires.keys.each i d [] (omega (arith, same.many))) (c.loop-i.invariant.1 i d d [] (omega (arith, same.many))))
    (mixed i d (omega (arith, same.many)))

pub loop-i-preserved : goal.loop-i-preserved
loop-i-preserved c =
    let old = c.args.indexes.now.items in
    let now = c.loop-i.indexes.items in
    let keys = c.args.keyed.now.keys.items in
    let row = c.args.keyed.now.row in
    let n = c.loop-i.i in
    let x = c.take.new.self in
    let same = c.loop-i.invariant.0 in
    let low : n < length old = omega (arith, c.loop-i-test.true, c.loop-i.auto.i-end, c.len-i-end.ensures) in
    let it : c.index_mut.result.now ≡ slice_index_or now n x = search rules in
    let key : c.index.result.now ≡ slice_index_or keys n c.index.result.now = search rules in
    let this : (d : Index) (k : Cells) → IsTaken (slice_index_or keys n k) row (slice_index_or old n d) x = λ d k q.
    (subst (λ a. IsTaken (slice_index_or keys n k) row a x) (it ∙ c.loop-i.invariant.2 n d x (omega arith) low) (subst (λ a. IsTaken a row c.index_mut.result.now x) (key ∙ inside keys n c.index.result.now k (omega (arith, low, c.requires.keys.many))) c.take.ensures.taken) q) in (
      same_more old now n x low same (c.take.ensures.cols ∙ ap (λ y. y.cols) it),
      (λ j d e k below. done_more old now n x low same (c.take.ensures.cols ∙ ap (λ y. y.cols) it)
          (λ m a b. (key : Cells) → IsTaken (slice_index_or keys m key) row a b) (λ m a b under kk. c.loop-i.invariant.1 m a b kk under) this j d e below k),
      left_more old now n x low same (c.take.ensures.cols ∙ ap (λ y. y.cols) it) c.loop-i.invariant.2,
    )
