use Rattle.std.proofs.Common.{◌∙◌}
use Rattle.plain_values.proofs.Common.{slice_cmp, pair_cmp}
use Rattle.lens_values.proofs.Cells.{as_many, pairs_are}
use Rattle.lens_values.proofs.row.RowOrd.cmp.Goals as goal

pub pairs_cmp-requires-clause-names : goal.pairs_cmp-requires-clause-names
pairs_cmp-requires-clause-names c = as_many c.args.self.now _ _ (c.as_slice.ensures ∙ c.names.ensures) c.values.ensures

pub pairs_cmp-requires-clause-others : goal.pairs_cmp-requires-clause-others
pairs_cmp-requires-clause-others c = as_many c.args.other.now _ _ (c.as_slice-2.ensures ∙ c.names-2.ensures) c.values-2.ensures

pub returns : goal.returns
returns c =
    c.pairs_cmp.ensures
    ∙ (λ i. slice_cmp pair_cmp (pairs_are c.args.self.now _ _ (c.as_slice.ensures ∙ c.names.ensures) c.values.ensures i) (pairs_are c.args.other.now _ _ (c.as_slice-2.ensures ∙ c.names-2.ensures) c.values-2.ensures i))
