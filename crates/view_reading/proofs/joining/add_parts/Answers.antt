use Rattle.std.proofs.Common.{◌∙◌, ◌++◌, ◌∷◌, [], ap, append-nil, arith, map, sym, take}
use Rattle.plain_values.proofs.Common.{map_more, take_all}
use Rattle.std.proofs.lemmas.List.{append_assoc}
use Rattle.view_reading.specs.Pasting.{part_at}
use Rattle.view_reading.proofs.joining.add_parts.Goals as goal

pub loop-entry-init : goal.loop-entry-init
loop-entry-init c = sym (append-nil c.args.parts.now.items)

pub loop-entry-preserved : goal.loop-entry-preserved
loop-entry-preserved c =
    let made = λ (e : _). part_at c.args.kept.now c.args.places.now c.args.row.now e.1 in
    let i = c.loop-entry.entry-index in
    let so_far = map made (take i c.args.entries.now) in
    c.in_ok-push.ensures.items
    ∙ (λ j. c.loop-entry.invariant j ++ c.in_ok-part.ensures j ∷ [])
    ∙ ap (λ e. (c.args.parts.now.items ++ so_far) ++ made e ∷ []) c.entry-item.is
    ∙ append_assoc c.args.parts.now.items so_far _
    ∙ ap (λ l. c.args.parts.now.items ++ l) (sym (map_more made c.args.entries.now i c.entry-item.result c.loop-entry-test.true))

pub returns : goal.returns
returns c =
    c.loop-entry.invariant
    ∙ ap (λ l. c.args.parts.now.items ++ map (λ e. part_at c.args.kept.now c.args.places.now c.args.row.now e.1) l) (take_all c.loop-entry.entry-index c.args.entries.now (omega arith))
