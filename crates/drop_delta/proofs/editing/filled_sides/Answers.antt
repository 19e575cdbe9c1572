use Rattle.std.proofs.Common.{◌≤◌, ◌+◌, ◌∙◌, ap, arith, length, rules, subst}
use Rattle.plain_values.proofs.Common.{Contains}
use Rattle.plain_values.specs.SortedSet as set
use Rattle.lens_laws.proofs.NodeFinds.{has_contained}
use Rattle.drop_delta.specs.Dropped.{filled_in}
use Rattle.drop_delta.proofs.DropLooks.{few_looks}
use Rattle.drop_delta.proofs.Filling.{made_all}
use Rattle.drop_delta.proofs.editing.filled_sides.Goals as goal

pub append_filled-requires-clause-have : goal.append_filled-requires-clause-have
append_filled-requires-clause-have g c = λ row i. c.requires.removed row
    (has_contained c.args.delta.now.remove row (subst (λ rows. Contains rows row) (c.rows-removed.ensures ∙ ap set.items c.remove.ensures) i))

pub append_filled-requires-in-loop-place-clause-have : goal.append_filled-requires-in-loop-place-clause-have
append_filled-requires-in-loop-place-clause-have g c = λ row i. c.requires.added row
    (has_contained c.args.delta.now.add row (subst (λ rows. Contains rows row) (c.rows-added.ensures ∙ ap set.items c.add.ensures) i))

pub loop-place-preserved : goal.loop-place-preserved
loop-place-preserved g c =
    let was = c.loop-place.invariant in (
      c.in_ok-append_filled.ensures.rows was.0,
      c.in_ok-append_filled-2.ensures.rows was.1,
      c.append_filled-in-loop-place.ensures.fillings,
      λ n w.
          let first = c.append_filled.ensures.looks n w in
          let second = c.append_filled-in-loop-place.ensures.looks n w in
          let before = was.3 n w in
          omega (arith, first, second, before),
    )

pub returns-clause-remove : goal.returns-clause-remove
returns-clause-remove g c =
    let past : length c.rows-removed.result.now ≤ c.loop-place.place = search rules in
    c.in_ok-remove-2.ensures
    ∙ made_all (filled_in c.args.dropped.now.col.now c.args.dropped.now.by.now c.args.dropped.now.fill.now (g.S.Look.relation c.args.source.now).rows) c.args.delta.now.remove c.rows-removed.result.now
    c.loop-place.remove.items c.loop-place.place (c.rows-removed.ensures ∙ ap set.items c.remove.ensures) past c.loop-place.invariant.0

pub returns-clause-add : goal.returns-clause-add
returns-clause-add g c =
    let past : length c.rows-added.result.now ≤ c.loop-place.place = search rules in
    c.in_ok-add-2.ensures
    ∙ made_all (filled_in c.args.dropped.now.col.now c.args.dropped.now.by.now c.args.dropped.now.fill.now (g.S.Look.relation c.args.source.now).rows) c.args.delta.now.add c.rows-added.result.now
    c.loop-place.add.items c.loop-place.place (c.rows-added.ensures ∙ ap set.items c.add.ensures) past c.loop-place.invariant.1

pub returns-clause-looks : goal.returns-clause-looks
returns-clause-looks g c = λ n w.
    few_looks n c.loop-place.place c.loop-place.place c.args.delta.now c.rows-removed.result.now c.rows-added.result.now c.args.looked.now c.loop-place.looked
    (c.rows-removed.ensures ∙ ap set.items c.remove.ensures) (c.rows-added.ensures ∙ ap set.items c.add.ensures) (c.loop-place.invariant.3 n w)

pub returns-in_err-remove-2-clause-looks : goal.returns-in_err-remove-2-clause-looks
returns-in_err-remove-2-clause-looks g c = λ n w.
    few_looks n c.loop-place.place c.loop-place.place c.args.delta.now c.rows-removed.result.now c.rows-added.result.now c.args.looked.now c.loop-place.looked
    (c.rows-removed.ensures ∙ ap set.items c.remove.ensures) (c.rows-added.ensures ∙ ap set.items c.add.ensures) (c.loop-place.invariant.3 n w)

pub returns-in_err-add-2-clause-looks : goal.returns-in_err-add-2-clause-looks
returns-in_err-add-2-clause-looks g c = λ n w.
    few_looks n c.loop-place.place c.loop-place.place c.args.delta.now c.rows-removed.result.now c.rows-added.result.now c.args.looked.now c.loop-place.looked
    (c.rows-removed.ensures ∙ ap set.items c.remove.ensures) (c.rows-added.ensures ∙ ap set.items c.add.ensures) (c.loop-place.invariant.3 n w)

pub returns-in_err-append_filled-clause-looks : goal.returns-in_err-append_filled-clause-looks
returns-in_err-append_filled-clause-looks g c = λ n w.
    let before = c.loop-place.invariant.3 n w in
    let now = c.append_filled.ensures.looks n w in
    few_looks n (c.loop-place.place + 1) c.loop-place.place c.args.delta.now c.rows-removed.result.now c.rows-added.result.now c.args.looked.now c.append_filled.new.looked
    (c.rows-removed.ensures ∙ ap set.items c.remove.ensures) (c.rows-added.ensures ∙ ap set.items c.add.ensures) (omega (arith, before, now))

pub returns-in_err-append_filled-2-clause-looks : goal.returns-in_err-append_filled-2-clause-looks
returns-in_err-append_filled-2-clause-looks g c = λ n w.
    let before = c.loop-place.invariant.3 n w in
    let first = c.append_filled.ensures.looks n w in
    let second = c.append_filled-in-loop-place.ensures.looks n w in
    few_looks n (c.loop-place.place + 1) (c.loop-place.place + 1) c.args.delta.now c.rows-removed.result.now c.rows-added.result.now c.args.looked.now c.append_filled-in-loop-place.new.looked
    (c.rows-removed.ensures ∙ ap set.items c.remove.ensures) (c.rows-added.ensures ∙ ap set.items c.add.ensures) (omega (arith, before, first, second))
