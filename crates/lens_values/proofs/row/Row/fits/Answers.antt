use Rattle.std.proofs.Common.{sym, subst, ◌∙◌, ◌↔◌, IsTrue}
use Rattle.plain_values.proofs.Common.{Fits, fits_along}
use Rattle.lens_values.proofs.Cells.{as_many, pairs_are}
use Rattle.lens_values.proofs.row.Row.fits.Goals as goal

pub all_fit-requires : goal.all_fit-requires
all_fit-requires c = as_many c.args.self.now _ _ (c.as_slice.ensures ∙ c.names.ensures) c.values.ensures

pub returns : goal.returns
returns c =
    subst (λ b. IsTrue b ↔ Fits c.args.columns.now c.args.self.now) (sym c.all_fit.ensures)
    (fits_along c.args.columns.now c.args.self.now _ _ (pairs_are c.args.self.now _ _ (c.as_slice.ensures ∙ c.names.ensures) c.values.ensures) c.pairs.ensures)
