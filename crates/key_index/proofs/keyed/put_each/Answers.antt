use Rattle.std.proofs.Common.{◌≡◌, ◌<◌, ap, ◌∙◌, subst, arith, [], length, rules, slice_index_or}
use Rattle.key_index.specs.declared.index.Index.{Index}
use Rattle.key_index.specs.Key.{Cells}
use Rattle.key_index.proofs.Lists.{inside}
use Rattle.key_index.proofs.Replaced.{done_more, left_more, same_more}
use Rattle.key_index.specs.Index.{IsPut, group_at}
use Rattle.key_index.proofs.Mixed.{half_put, set_mixed, on_err_of}
use Rattle.key_index.proofs.Put.{index_put}
use Rattle.key_index.proofs.keyed.put_each.Goals as goal

pub returns-clause-ok : goal.returns-clause-ok
returns-clause-ok c = λ rows was i d within.
    let same = c.loop-i.invariant.0 in
    let row = c.args.keyed.now.row in
    index_put rows row (slice_index_or c.args.indexes.now.items i d) (slice_index_or c.loop-i.indexes.items i d)
    (same.each i d d (omega (arith, same.many)))
    (subst (λ key. IsPut key row (slice_index_or c.args.indexes.now.items i d) (slice_index_or c.loop-i.indexes.items i d)) (c.requires.keys.each i d [] (omega (arith, same.many))) (c.loop-i.invariant.1 i d d [] (omega (arith, same.many))))
    (was i d (omega (arith, same.many)))

pub returns-in_err-copy-clause-err : goal.returns-in_err-copy-clause-err
returns-in_err-copy-clause-err c = on_err_of c.from_residual.result (λ rows was.
    half_put rows c.args.keyed.now c.args.indexes.now.items c.loop-i.indexes.items c.loop-i.i c.requires.keys c.loop-i.invariant.0 c.loop-i.invariant.1 c.loop-i.invariant.2 was)

pub returns-in_err-put-clause-err : goal.returns-in_err-put-clause-err
returns-in_err-put-clause-err c = on_err_of c.from_residual-in_err-put.result (λ rows was.
    let it : c.index_mut.result.now ≡ slice_index_or c.loop-i.indexes.items c.loop-i.i c.put.new.self = search rules in
    set_mixed rows c.args.keyed.now.row c.loop-i.indexes.items c.loop-i.i c.put.new.self
    (c.in_err-put.ensures.cols ∙ ap (λ x. x.cols) it)
    (λ q. c.in_err-put.ensures.err q ∙ ap (λ x. group_at x q) it)
    (half_put rows c.args.keyed.now c.args.indexes.now.items c.loop-i.indexes.items c.loop-i.i c.requires.keys c.loop-i.invariant.0 c.loop-i.invariant.1 c.loop-i.invariant.2 was))

pub loop-i-preserved : goal.loop-i-preserved
loop-i-preserved c =
    let old = c.args.indexes.now.items in
    let now = c.loop-i.indexes.items in
    let keys = c.args.keyed.now.keys.items in
    let row = c.args.keyed.now.row in
    let n = c.loop-i.i in
    let x = c.put.new.self in
    let same = c.loop-i.invariant.0 in
    let low : n < length old = omega (arith, c.loop-i-test.true, c.loop-i.auto.i-end, c.len-i-end.ensures) in
    let it : c.index_mut.result.now ≡ slice_index_or now n x = search rules in
    let key : c.index.result.now ≡ slice_index_or keys n c.index.result.now = search rules in
    let this : (d : Index) (k : Cells) → IsPut (slice_index_or keys n k) row (slice_index_or old n d) x = λ d k q.
    (subst (λ r. IsPut (slice_index_or keys n k) r (slice_index_or old n d) x) c.in_ok-copy.ensures (subst (λ a. IsPut (slice_index_or keys n k) c.in_ok-copy.copy a x) (it ∙ c.loop-i.invariant.2 n d x (omega arith) low) (subst (λ a. IsPut a c.in_ok-copy.copy c.index_mut.result.now x) (key ∙ inside keys n c.index.result.now k (omega (arith, low, c.requires.keys.many))) c.in_ok-put.ensures.ok)) q) in (
      same_more old now n x low same (c.in_ok-put.ensures.cols ∙ ap (λ y. y.cols) it),
      (λ j d e k below. done_more old now n x low same (c.in_ok-put.ensures.cols ∙ ap (λ y. y.cols) it)
          (λ m a b. (key : Cells) → IsPut (slice_index_or keys m key) row a b) (λ m a b under kk. c.loop-i.invariant.1 m a b kk under) this j d e below k),
      left_more old now n x low same (c.in_ok-put.ensures.cols ∙ ap (λ y. y.cols) it) c.loop-i.invariant.2,
    )
