use Rattle.std.proofs.Common.{◌≡◌, ◌+◌, ◌<◌, ◌∷◌, set, get_or, drop, length, ap, ◌∙◌, subst, rules}
use Rattle.plain_values.proofs.Common.{map_over_more}
use Rattle.base_index.specs.Several.{AreQuiet, kept}
use Rattle.base_index.proofs.Tabled.{left_at, still_at}
use Rattle.base_index.proofs.several.keep_each.Goals as goal

pub keep-requires : goal.keep-requires
keep-requires c =
    let xs = c.args.tables.now.items in
    let ys = c.loop-i.tables.items in
    let i = c.loop-i.i in
    let x = c.index_mut.result.now in
    let within : i < length xs = search rules in
    let at : x ≡ get_or ys i x = search rules in
    let here = still_at kept xs ys i x c.loop-i.invariant.0 within at in
    let left = left_at xs i x within here in
    let quiet : AreQuiet (x ∷ drop (i + 1) xs) = subst AreQuiet left c.loop-i.invariant.1 in
    quiet.0

pub loop-i-preserved : goal.loop-i-preserved
loop-i-preserved c =
    let xs = c.args.tables.now.items in
    let ys = c.loop-i.tables.items in
    let i = c.loop-i.i in
    let x = c.index_mut.result.now in
    let within : i < length xs = search rules in
    let at : x ≡ get_or ys i x = search rules in
    let here = still_at kept xs ys i x c.loop-i.invariant.0 within at in
    let left = left_at xs i x within here in
    let quiet : AreQuiet (x ∷ drop (i + 1) xs) = subst AreQuiet left c.loop-i.invariant.1 in (
      ap (set ys i) c.keep.ensures ∙ map_over_more kept xs ys i x within c.loop-i.invariant.0 at,
      quiet.1,
    )
