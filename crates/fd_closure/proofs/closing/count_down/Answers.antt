use Rattle.std.proofs.Common.{◌≡◌, ◌<◌, ◌+◌, ◌∙◌, sym, ap, subst, length, get_or, take, length-set}
use Rattle.fd_closure.specs.Lacks.{uses}
use Rattle.fd_closure.proofs.Arrivals.{front_kept}
use Rattle.fd_closure.proofs.Counting.{among_more, counted_less, still_counted, within_more}
use Rattle.fd_closure.proofs.closing.count_down.Goals as goal

pub lessen-requires-clause-some : goal.lessen-requires-clause-some
lessen-requires-clause-some c =
    let es = c.args.entries.now in
    let k = c.loop-place.place-index in
    let x = c.loop-place-item.result in
    let is : x.1 ≡ (get_or es k x).1 = ap (λ e. e.1) c.loop-place-item.is in
    let fits : x.1 < length c.args.deps.now = subst (λ q. q < length c.args.deps.now) (sym is) (c.requires.places k x c.loop-place-test.true) in
    still_counted es k x.1 (get_or c.loop-place.lacks x.1 0) (get_or c.args.lacks.now x.1 0) x c.loop-place-test.true is (c.loop-place.invariant.counts x.1 fits) (c.requires.counts x.1 fits)

pub loop-place-preserved : goal.loop-place-preserved
loop-place-preserved c =
    let F = c.args.deps.now in
    let es = c.args.entries.now in
    let lacks = c.loop-place.lacks in
    let first = c.args.found.now.order.items in
    let old = c.loop-place.found.order.items in
    let new = c.lessen.new.found.order.items in
    let k = c.loop-place.place-index in
    let x = c.loop-place-item.result in
    let is : x.1 ≡ (get_or es k x).1 = ap (λ e. e.1) c.loop-place-item.is in
    let fits : x.1 < length F = subst (λ q. q < length F) (sym is) (c.requires.places k x c.loop-place-test.true) in
    let within : x.1 < length lacks = subst (λ n. x.1 < n) (sym c.loop-place.invariant.len) fits in
    let some : 0 < get_or lacks x.1 0 = still_counted es k x.1 (get_or lacks x.1 0) (get_or c.args.lacks.now x.1 0) x c.loop-place-test.true is (c.loop-place.invariant.counts x.1 fits) (c.requires.counts x.1 fits) in
    let less = c.lessen.ensures.lacks in
    record {
      kept = c.in_ok-lessen.ensures.kept;
      front = front_kept first old new c.loop-place.invariant.front c.in_ok-lessen.ensures.front;
      len = ap length less ∙ length-set _ _ _ ∙ c.loop-place.invariant.len;
      counts = λ d b. subst (λ l. get_or l d 0 + uses (take (k + 1) es) d ≡ get_or c.args.lacks.now d 0) (sym less)
          (counted_less lacks es k d x.1 (get_or c.args.lacks.now d 0) x c.loop-place-test.true is within some (c.loop-place.invariant.counts d b));
      within = λ D. within_more F lacks c.lessen.new.lacks x.1 within less old new c.in_ok-lessen.ensures.members first D fits (c.loop-place.invariant.within D);
      among = λ was. among_more F lacks c.lessen.new.lacks x.1 within less old new c.in_ok-lessen.ensures.members (c.loop-place.invariant.among was);
    }
