use Rattle.std.proofs.Common.{◌≤◌, ◌+◌, ◌*◌, ◌∙◌, ◌∷◌, ◌++◌, [], ap, arith, length, length-append, subst, sym, take, flat_map}
use Rattle.plain_values.proofs.Common.{flat_map_more, take_all, take_more, Row}
use Rattle.plain_values.specs.SortedSet as set
use Rattle.signed_delta.proofs.Counts.{all_rows, at_end, listed_len, next, one_more}
use Rattle.signed_delta.proofs.Looks.{listed_at}
use Rattle.revision.specs.Near.{near_from}
use Rattle.revision.proofs.Near.{near_enough, turned}
use Rattle.revision.proofs.nearing.near_by_rows.Goals as goal

pub near_row-requires-clause-fit : goal.near_row-requires-clause-fit
near_row-requires-clause-fit g c = c.requires.fit c.row-item.result
    (listed_at c.args.plus.now c.rows-row-items.result.now c.loop-row.row-index c.row-item.result c.rows-row-items.ensures c.loop-row-test.true c.row-item.is)

pub loop-row-preserved : goal.loop-row-preserved
loop-row-preserved g c =
    let T = c.args.tree.now in
    let M = (g.K.Look.relation c.args.look.now).rows in
    let f = λ (p : Row). near_from T M p [] in
    let i = c.loop-row.row-index in
    let rows = c.rows-row-items.result.now in
    let row = c.row-item.result in
    let some = c.deref.ensures.value ∙ c.in_ok-some.ensures.near in (
      c.in_ok-append.ensures ∙ (λ z. c.loop-row.invariant.0 z ++ some z) ∙ flat_map_more f [] (take i rows) row
          ∙ ap (flat_map f) (ap (λ r. take i rows ++ r ∷ []) c.row-item.is ∙ sym (take_more rows i row c.loop-row-test.true)),
      λ n w. next (n * length T) i c.args.looked.now c.loop-row.looked c.near_row.new.looked (c.loop-row.invariant.1 n w) (c.near_row.ensures.looks n w),
      λ n w.
          let longer = ap length c.in_ok-append.ensures in
          let both = length-append c.loop-row.near.items c.deref.result.now in
          let added = ap length c.deref.ensures.value in
          let before = c.loop-row.invariant.2 n w in
          let now = c.in_ok-some.ensures.few n w in
          omega (arith, longer, both, added, before, now),
    )

pub returns-in_err-some-clause-looks : goal.returns-in_err-some-clause-looks
returns-in_err-some-clause-looks g c = λ n w.
    let t = length c.args.tree.now in
    let P = length (set.items c.args.plus.now) in
    let listed = ap length c.rows-row-items.ensures in
    subst (λ k. c.near_row.new.looked ≤ c.args.looked.now + k) (turned n P t)
    (one_more (n * t) c.loop-row.row-index P c.args.looked.now c.loop-row.looked c.near_row.new.looked (omega (arith, c.loop-row-test.true, listed))
    (c.loop-row.invariant.1 n w) (c.near_row.ensures.looks n w))

pub returns-in_err-append-clause-looks : goal.returns-in_err-append-clause-looks
returns-in_err-append-clause-looks g c = λ n w.
    let t = length c.args.tree.now in
    let P = length (set.items c.args.plus.now) in
    let listed = ap length c.rows-row-items.ensures in
    subst (λ k. c.near_row.new.looked ≤ c.args.looked.now + k) (turned n P t)
    (one_more (n * t) c.loop-row.row-index P c.args.looked.now c.loop-row.looked c.near_row.new.looked (omega (arith, c.loop-row-test.true, listed))
    (c.loop-row.invariant.1 n w) (c.near_row.ensures.looks n w))

pub returns-in_err-union-clause-looks : goal.returns-in_err-union-clause-looks
returns-in_err-union-clause-looks g c = λ n w.
    let t = length c.args.tree.now in
    let P = length (set.items c.args.plus.now) in
    let listed = ap length c.rows-row-items.ensures in
    subst (λ k. c.loop-row.looked ≤ c.args.looked.now + k) (turned n P t)
    (at_end (n * t) c.loop-row.row-index P c.args.looked.now c.loop-row.looked (omega (arith, listed, c.loop-row.auto.row-index-end)) (c.loop-row.invariant.1 n w))

pub returns-clause-looks : goal.returns-clause-looks
returns-clause-looks g c = λ n w.
    let t = length c.args.tree.now in
    let P = length (set.items c.args.plus.now) in
    let listed = ap length c.rows-row-items.ensures in
    subst (λ k. c.loop-row.looked ≤ c.args.looked.now + k) (turned n P t)
    (at_end (n * t) c.loop-row.row-index P c.args.looked.now c.loop-row.looked (omega (arith, listed, c.loop-row.auto.row-index-end)) (c.loop-row.invariant.1 n w))

pub returns-clause-few : goal.returns-clause-few
returns-clause-few g c = λ n w.
    let t = length c.args.tree.now in
    let P = length (set.items c.args.plus.now) in
    let listed = ap length c.rows-row-items.ensures in
    let is = ap (λ s. length (set.items s)) c.in_ok-union.ensures in
    let fewer = listed_len c.loop-row.near.items in
    let all = all_rows (n * t) c.loop-row.row-index P (length c.loop-row.near.items) (omega (arith, listed, c.loop-row.auto.row-index-end)) (c.loop-row.invariant.2 n w) in
    let same = turned n P t in
    omega (arith, is, fewer, all, same)

pub returns-clause-near : goal.returns-clause-near
returns-clause-near g c =
    let T = c.args.tree.now in
    let M = (g.K.Look.relation c.args.look.now).rows in
    let f = λ (p : Row). near_from T M p [] in
    let all = c.loop-row.invariant.0 ∙ ap (flat_map f) (take_all c.loop-row.row-index c.rows-row-items.result.now c.loop-row-test.false ∙ c.rows-row-items.ensures) in
    near_enough T M c.args.plus.now c.in_ok-union.union c.loop-row.near.items c.requires.meets all c.in_ok-union.ensures
