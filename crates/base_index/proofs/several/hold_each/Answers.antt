use Rattle.std.proofs.Common.{◌≡◌, ◌+◌, ◌<◌, ◌∷◌, set, get_or, drop, length, ap, ◌∙◌, subst, rules, false}
use Rattle.plain_values.proofs.Common.{map_over_more}
use Rattle.base_index.specs.Several.{AreHeld, AreQuiet, holding}
use Rattle.base_index.proofs.Holding.{none_held}
use Rattle.base_index.proofs.Tabled.{left_at, still_at}
use Rattle.base_index.proofs.several.hold_each.Goals as goal

pub hold-requires-clause-quiet : goal.hold-requires-clause-quiet
hold-requires-clause-quiet c =
    let xs = c.args.tables.now.items in
    let ys = c.loop-i.tables.items in
    let i = c.loop-i.i in
    let x = c.index_mut.result.now in
    let within : i < length xs = search rules in
    let at : x ≡ get_or ys i x = search rules in
    let here = still_at holding xs ys i x c.loop-i.invariant.0 within at in
    let left = left_at xs i x within here in
    let quiet : AreQuiet (x ∷ drop (i + 1) xs) = subst AreQuiet left c.loop-i.invariant.1 in
    quiet.0

pub hold-requires-clause-free : goal.hold-requires-clause-free
hold-requires-clause-free c =
    let xs = c.args.tables.now.items in
    let ys = c.loop-i.tables.items in
    let i = c.loop-i.i in
    let x = c.index_mut.result.now in
    let within : i < length xs = search rules in
    let at : x ≡ get_or ys i x = search rules in
    let here = still_at holding xs ys i x c.loop-i.invariant.0 within at in
    let left = left_at xs i x within here in
    let held : AreHeld false (x ∷ drop (i + 1) xs) = subst (AreHeld false) left c.loop-i.invariant.2 in
    none_held x.held held.0

pub loop-i-preserved : goal.loop-i-preserved
loop-i-preserved c =
    let xs = c.args.tables.now.items in
    let ys = c.loop-i.tables.items in
    let i = c.loop-i.i in
    let x = c.index_mut.result.now in
    let within : i < length xs = search rules in
    let at : x ≡ get_or ys i x = search rules in
    let here = still_at holding xs ys i x c.loop-i.invariant.0 within at in
    let left = left_at xs i x within here in
    let quiet : AreQuiet (x ∷ drop (i + 1) xs) = subst AreQuiet left c.loop-i.invariant.1 in
    let held : AreHeld false (x ∷ drop (i + 1) xs) = subst (AreHeld false) left c.loop-i.invariant.2 in (
      ap (set ys i) c.hold.ensures ∙ map_over_more holding xs ys i x within c.loop-i.invariant.0 at,
      quiet.1,
      held.1,
    )
