use Rattle.std.proofs.Common.{◌∙◌, ◌++◌, ◌∷◌, [], ap, sym}
use Rattle.plain_values.proofs.Common.{map_more}
use Rattle.lens_specs.specs.Common.{renamed_names}
use Rattle.lens_probe.proofs.RenamedViews.{names_are}
use Rattle.lens_probe.proofs.needed.renamed_each.Goals as goal

pub loop-set-preserved : goal.loop-set-preserved
loop-set-preserved c =
    let A = c.args.from.now in
    let B = c.args.to.now in
    let C = c.set-item.result in
    let set_renamed = names_are A B C c.in_ok-rename.field-0 c.in_ok-rename.ensures ∙ ap (renamed_names A B) c.set-item.is in
    c.in_ok-push.ensures.items ∙ (λ i. c.loop-set.invariant i ++ set_renamed i ∷ []) ∙ sym (map_more (renamed_names A B) c.args.sets.now c.loop-set.set-index C c.loop-set-test.true)
