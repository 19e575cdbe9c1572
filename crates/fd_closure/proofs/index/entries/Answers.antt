use Rattle.std.proofs.Common.{◌≡◌, ◌+◌, ◌++◌, ◌∙◌, sym, ap, subst, length, get_or, map, take, below_more, arith}
use Rattle.plain_values.proofs.Common.{get_or_default, length-take-le, take_more}
use Rattle.plain_values.specs.SortedSet as set
use Rattle.lens_specs.specs.Common.{Edge}
use Rattle.fd_closure.specs.Entries.{entries_from}
use Rattle.fd_closure.specs.Sides.{IsFull}
use Rattle.fd_closure.proofs.Indexes.{entries_push}
use Rattle.fd_closure.proofs.index.entries.Goals as goal

pub loop-place-preserved : goal.loop-place-preserved
loop-place-preserved c =
    let F = c.args.deps.now in
    let k = c.loop-place.place in
    let e = c.index-deps-place.result in
    let names : c.as_slice.result.now ≡ set.items (get_or F k e).left = c.as_slice.ensures ∙ ap set.items (c.left.ensures.value ∙ ap (λ d. d.left) c.index-deps-place.is) in
    let here : k ≡ 0 + length (take k F) = (let l = length-take-le k F (omega arith) in omega arith) in
    let full = below_more (λ i. (d : Edge) → IsFull (get_or F i d)) k (λ i l d. c.loop-place.invariant.full i d l)
    (λ d. subst IsFull (c.index-deps-place.is ∙ get_or_default F k e d c.loop-place-test.true) c.left.ensures.full) in
    record {
      list = c.in_ok-append_entries.ensures ∙ (λ i. c.loop-place.invariant.list i ++ map (λ n. (n, k)) (names i))
          ∙ sym (entries_push (take k F) (get_or F k e) 0 k here) ∙ ap (entries_from 0) (sym (take_more F k e c.loop-place-test.true));
      full = λ i d l. full i l d;
    }
