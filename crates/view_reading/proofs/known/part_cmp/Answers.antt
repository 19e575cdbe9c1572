use Rattle.std.proofs.Common.{◌∙◌, subst}
use Rattle.std.specs.FinMap as map
use Rattle.lens_values.proofs.Cells.{as_many, pairs_are}
use Rattle.view_reading.specs.KnownRows.{AreAmong}
use Rattle.view_reading.proofs.KnownParts.{part_is}
use Rattle.view_reading.proofs.known.part_cmp.Goals as goal

pub pairs_cmp-requires-clause-known : goal.pairs_cmp-requires-clause-known
pairs_cmp-requires-clause-known c = as_many c.args.known.now _ _ (c.as_slice.ensures ∙ c.names.ensures) c.values.ensures

pub pairs_cmp-requires-clause-others : goal.pairs_cmp-requires-clause-others
pairs_cmp-requires-clause-others c = as_many c.args.row.now _ _ (c.as_slice-2.ensures ∙ c.names-2.ensures) c.values-2.ensures

pub returns : goal.returns
returns c = λ same C over.
    let mine = pairs_are c.args.known.now _ _ (c.as_slice.ensures ∙ c.names.ensures) c.values.ensures in
    let its = pairs_are c.args.row.now _ _ (c.as_slice-2.ensures ∙ c.names-2.ensures) c.values-2.ensures in
    part_is C c.args.known.now c.args.row.now over (subst (λ some. AreAmong some (map.entries c.args.row.now)) mine (subst (AreAmong _) its (c.pairs_cmp.ensures same)))
