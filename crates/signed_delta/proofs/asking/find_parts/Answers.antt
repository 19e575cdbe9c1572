use Rattle.std.proofs.Common.{◌∙◌, ◌∷◌, ◌++◌, [], ap, arith, length, length-append, sym, take, flat_map}
use Rattle.plain_values.proofs.Common.{flat_map_more, take_all, take_more, Row}
use Rattle.plain_values.specs.SortedSet as set
use Rattle.lens_specs.specs.Common.{project}
use Rattle.lens_laws.proofs.Common.{find_by}
use Rattle.signed_delta.proofs.Counts.{all_rows, at_end, listed_len, next, one_more, project_len}
use Rattle.signed_delta.proofs.Looks.{found_by_parts, listed_at, part_has_columns}
use Rattle.signed_delta.proofs.asking.find_parts.Goals as goal

pub find-requires-clause-key : goal.find-requires-clause-key
find-requires-clause-key g c =
    part_has_columns c.args.cols.now c.args.rows.now c.key-item.result c.requires.have
    (listed_at (project c.args.cols.now c.args.rows.now) c.rows-key-items.result.now c.loop-key.key-index c.key-item.result
    (c.rows-key-items.ensures ∙ ap set.items c.in_ok-keys.ensures) c.loop-key-test.true c.key-item.is)

pub returns-clause-found : goal.returns-clause-found
returns-clause-found g c =
    let M = (g.K.Look.relation c.args.look.now).rows in
    let find = λ (k : Row). set.items (find_by c.args.cols.now k M) in
    let all = c.loop-key.invariant.0 ∙ ap (flat_map find) (take_all c.loop-key.key-index c.rows-key-items.result.now c.loop-key-test.false ∙ c.rows-key-items.ensures ∙ ap set.items c.in_ok-keys.ensures) in
    c.in_ok-union.ensures ∙ found_by_parts c.args.cols.now M c.args.rows.now c.loop-key.all.items all

pub returns-clause-looks : goal.returns-clause-looks
returns-clause-looks g c = λ n w.
    let keys = ap length (c.rows-key-items.ensures ∙ ap set.items c.in_ok-keys.ensures) in
    let few = project_len c.args.cols.now c.args.rows.now in
    at_end n c.loop-key.key-index (length (set.items c.args.rows.now)) c.args.looked.now c.loop-key.looked (omega (arith, keys, few, c.loop-key.auto.key-index-end)) (c.loop-key.invariant.1 n w)

pub returns-in_err-union-clause-looks : goal.returns-in_err-union-clause-looks
returns-in_err-union-clause-looks g c = λ n w.
    let keys = ap length (c.rows-key-items.ensures ∙ ap set.items c.in_ok-keys.ensures) in
    let few = project_len c.args.cols.now c.args.rows.now in
    at_end n c.loop-key.key-index (length (set.items c.args.rows.now)) c.args.looked.now c.loop-key.looked (omega (arith, keys, few, c.loop-key.auto.key-index-end)) (c.loop-key.invariant.1 n w)

pub returns-in_err-found-clause-looks : goal.returns-in_err-found-clause-looks
returns-in_err-found-clause-looks g c = λ n w.
    let keys = ap length (c.rows-key-items.ensures ∙ ap set.items c.in_ok-keys.ensures) in
    let few = project_len c.args.cols.now c.args.rows.now in
    one_more n c.loop-key.key-index (length (set.items c.args.rows.now)) c.args.looked.now c.loop-key.looked c.find.new.looked (omega (arith, keys, few, c.loop-key-test.true))
    (c.loop-key.invariant.1 n w) (c.find.ensures.looks n w)

pub returns-in_err-append-clause-looks : goal.returns-in_err-append-clause-looks
returns-in_err-append-clause-looks g c = λ n w.
    let keys = ap length (c.rows-key-items.ensures ∙ ap set.items c.in_ok-keys.ensures) in
    let few = project_len c.args.cols.now c.args.rows.now in
    one_more n c.loop-key.key-index (length (set.items c.args.rows.now)) c.args.looked.now c.loop-key.looked c.find.new.looked (omega (arith, keys, few, c.loop-key-test.true))
    (c.loop-key.invariant.1 n w) (c.find.ensures.looks n w)

pub returns-clause-few : goal.returns-clause-few
returns-clause-few g c = λ n w.
    let keys = ap length (c.rows-key-items.ensures ∙ ap set.items c.in_ok-keys.ensures) in
    let few = project_len c.args.cols.now c.args.rows.now in
    let is = ap (λ s. length (set.items s)) c.in_ok-union.ensures in
    let listed = listed_len c.loop-key.all.items in
    let all = all_rows n c.loop-key.key-index (length (set.items c.args.rows.now)) (length c.loop-key.all.items) (omega (arith, keys, few, c.loop-key.auto.key-index-end)) (c.loop-key.invariant.2 n w) in
    omega (arith, is, listed, all)

pub loop-key-preserved : goal.loop-key-preserved
loop-key-preserved g c =
    let M = (g.K.Look.relation c.args.look.now).rows in
    let find = λ (k : Row). set.items (find_by c.args.cols.now k M) in
    let i = c.loop-key.key-index in
    let keys = c.rows-key-items.result.now in
    let key = c.key-item.result in
    let rows = c.rows.ensures ∙ ap set.items c.in_ok-found.ensures.found in (
      c.in_ok-append.ensures ∙ (λ z. c.loop-key.invariant.0 z ++ rows z) ∙ flat_map_more find [] (take i keys) key
          ∙ ap (flat_map find) (ap (λ r. take i keys ++ r ∷ []) c.key-item.is ∙ sym (take_more keys i key c.loop-key-test.true)),
      λ n w. next n i c.args.looked.now c.loop-key.looked c.find.new.looked (c.loop-key.invariant.1 n w) (c.find.ensures.looks n w),
      λ n w.
          let longer = ap length c.in_ok-append.ensures in
          let both = length-append c.loop-key.all.items c.rows.result.now in
          let some = ap length c.rows.ensures in
          let before = c.loop-key.invariant.2 n w in
          let now = c.in_ok-found.ensures.few n w in
          omega (arith, longer, both, some, before, now),
    )
