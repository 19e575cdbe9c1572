use Rattle.std.proofs.Common.{◌-◌, ◌+◌, ◌≡◌, ◌<◌, ◌∙◌, ap, drop, length, arith}
use Rattle.plain_values.proofs.Common.{position_from, is_eq, restrict, row_cmp}
use Rattle.fd_tree.proofs.Places.{holds_more, holds_none}
use Rattle.revision.proofs.first_by_key.first_by_key.Goals as goal

pub loop-place-init : goal.loop-place-init
loop-place-init c =
    let rows = c.args.rows.now in
    holds_none row_cmp (restrict c.args.cols.now) c.new-places.result rows (length rows) c.new-places.ensures.empty (omega arith)

pub loop-place-preserved : goal.loop-place-preserved
loop-place-preserved c =
    let rows = c.args.rows.now in
    let C = c.args.cols.now in
    let p = c.loop-place.place in
    let i = p - 1 in
    let l : i < length rows = omega (arith, c.loop-place.auto.place, c.loop-place-test.true) in
    let e : p ≡ i + 1 = omega (arith, c.loop-place-test.true) in
    holds_more row_cmp (restrict C) c.loop-place.places c.insert.new.self rows i p c.in_ok-key.key c.index-rows-place.result l e c.index-rows-place.is c.in_ok-key.ensures c.loop-place.invariant c.in_ok-insert.ensures.updates.0

pub returns : goal.returns
returns c = λ q.
    let rows = c.args.rows.now in
    let last : c.loop-place.place ≡ 0 = omega (arith, c.loop-place-test.false) in
    c.loop-place.invariant q ∙ ap (λ n. position_from (λ r. is_eq (row_cmp (restrict c.args.cols.now r) q)) n (drop n rows)) last
