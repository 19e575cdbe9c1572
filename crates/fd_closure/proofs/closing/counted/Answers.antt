use Rattle.std.proofs.Common.{◌≡◌, ◌<◌, ◌+◌, ◌∙◌, sym, ap, subst, length, get_or, set, take, nat_eq, arith, length-set}
use Rattle.plain_values.proofs.Common.{get_or_read, length-take-le}
use Rattle.std.proofs.lemmas.List.Sums.{count_by-le-length}
use Rattle.fd_closure.specs.Lacks.{uses}
use Rattle.fd_closure.proofs.Counting.{counted_more}
use Rattle.fd_closure.proofs.closing.counted.Goals as goal

pub overflow_add-index_mut : goal.overflow_add-index_mut
overflow_add-index_mut c =
    let lacks = c.loop-place.lacks.items in
    let es = c.args.entries.now in
    let k = c.loop-place.place-index in
    let x = c.loop-place-item.result in
    let is : x.1 ≡ (get_or es k x).1 = ap (λ e. e.1) c.loop-place-item.is in
    let fits : x.1 < c.args.count = subst (λ q. q < c.args.count) (sym is) (c.requires k x c.loop-place-test.true) in
    let within : x.1 < length lacks = omega (arith, c.loop-place.invariant.len) in
    let now : c.index_mut.result.now ≡ get_or lacks x.1 0 = get_or_read lacks x.1 c.index_mut.result.now within c.index_mut.ensures.value 0 in
    let few = count_by-le-length (λ e. nat_eq e.1 x.1) (take k es) in
    let front : length (take k es) ≡ k = length-take-le k es (omega arith) in
    let so : get_or lacks x.1 0 ≡ uses (take k es) x.1 = c.loop-place.invariant.counts x.1 fits in
    omega arith

pub loop-place-preserved : goal.loop-place-preserved
loop-place-preserved c =
    let lacks = c.loop-place.lacks.items in
    let es = c.args.entries.now in
    let k = c.loop-place.place-index in
    let x = c.loop-place-item.result in
    let is : x.1 ≡ (get_or es k x).1 = ap (λ e. e.1) c.loop-place-item.is in
    let fits : x.1 < c.args.count = subst (λ q. q < c.args.count) (sym is) (c.requires k x c.loop-place-test.true) in
    let within : x.1 < length lacks = omega (arith, c.loop-place.invariant.len) in
    let now : c.index_mut.result.now ≡ get_or lacks x.1 0 = get_or_read lacks x.1 c.index_mut.result.now within c.index_mut.ensures.value 0 in
    record {
      len = length-set lacks x.1 (c.index_mut.result.now + 1) ∙ c.loop-place.invariant.len;
      counts = λ d b. ap (λ n. get_or (set lacks x.1 (n + 1)) d 0) now ∙ counted_more lacks es k d x.1 x c.loop-place-test.true is within (c.loop-place.invariant.counts d b);
    }
