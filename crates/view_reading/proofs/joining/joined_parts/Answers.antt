use Rattle.std.proofs.Common.{◌∙◌, ap, subst, sym}
use Rattle.plain_values.proofs.Common.{filter_map, IfOk-weaker}
use Rattle.plain_values.specs.SortedSet as set
use Rattle.lens_specs.specs.Common.{project}
use Rattle.row_sets.specs.Joins.{pairs_on}
use Rattle.row_sets.proofs.Pairs.{parts_paired}
use Rattle.view_reading.specs.Pasting.{IsIndex, own_place, parts_by}
use Rattle.view_reading.proofs.PairParts.{entries_named, items_named, parts_by_is}
use Rattle.view_reading.proofs.joining.joined_parts.Goals as goal

pub parts-requires-clause-places : goal.parts-requires-clause-places
parts-requires-clause-places c =
    c.in_ok-index.ensures.places ∙ c.in_ok-places.ensures
    ∙ ap (λ C. filter_map (own_place c.args.left.now.cols.now) (set.items C)) (sym c.in_ok-index.ensures.cols)

pub returns : goal.returns
returns c =
    let U = c.args.left.now.cols.now in
    let V = c.args.right.now.cols.now in
    let K = c.args.kept.now in
    let M = c.args.left.now.rows.now in
    let N = c.args.right.now.rows.now in
    let S = c.in_ok-shared.shared in
    let entries = c.in_ok-index.index.entries.items in
    let index : IsIndex S (set.items N) entries = subst (λ rows. IsIndex S rows entries) c.rows.ensures c.in_ok-index.ensures.entries in
    IfOk-weaker c.parts.result _ _
    (λ parts made.
    ap set.from_list (made ∙ (λ i. parts_by K (c.deref.ensures.value i) (c.in_ok-index.ensures.cols i) entries (set.items M))
    ∙ parts_by_is U V K S c.in_ok-places_in.field-0.items c.in_ok-places_in.ensures entries (entries_named S V N entries c.requires.right index) (set.items M) (items_named U M c.requires.left))
    ∙ parts_paired S K M N entries index.1
    ∙ ap (λ C. project K (pairs_on C M N)) c.in_ok-shared.ensures)
    c.parts.ensures
