use Rattle.std.proofs.Common.{◌≡◌, ◌+◌, ◌<◌, ◌∷◌, set, get_or, drop, length, ap, ◌∙◌, subst, rules, true}
use Rattle.plain_values.proofs.Common.{map_over_more}
use Rattle.base_index.specs.Several.{AreHeld, taken_back}
use Rattle.base_index.proofs.Holding.{back_is}
use Rattle.base_index.proofs.Tabled.{left_at, still_at}
use Rattle.base_index.proofs.several.back_each.Goals as goal

pub loop-i-preserved : goal.loop-i-preserved
loop-i-preserved c =
    let xs = c.args.tables.now.items in
    let ys = c.loop-i.tables.items in
    let i = c.loop-i.i in
    let x = c.index_mut.result.now in
    let within : i < length xs = search rules in
    let at : x ≡ get_or ys i x = search rules in
    let here = still_at taken_back xs ys i x c.loop-i.invariant.0 within at in
    let left = left_at xs i x within here in
    let held : AreHeld true (x ∷ drop (i + 1) xs) = subst (AreHeld true) left c.loop-i.invariant.1 in (
      ap (set ys i) (back_is x c.back.new.self held.0 c.back.ensures) ∙ map_over_more taken_back xs ys i x within c.loop-i.invariant.0 at,
      held.1,
    )
