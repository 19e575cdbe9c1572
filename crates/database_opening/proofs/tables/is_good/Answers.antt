use Rattle.std.proofs.Common.{◌≡◌, ◌∙◌, ◌&&◌, ap, sym}
use Rattle.lens_specs.specs.Common.{holds}
use Rattle.opening_specs.specs.Opening.{is_fit}
use Rattle.database_opening.proofs.Inspected.{fits_told}
use Rattle.database_opening.proofs.tables.is_good.Goals as goal

pub returns-then-fits : goal.returns-then-fits
returns-then-fits c =
    let s = c.args.sort.now in
    let row = c.args.row.now in
    let told : c.fits.result ≡ is_fit s.columns row = fits_told s.columns c.cols.result.now row c.fits.result c.cols.ensures.value c.fits.ensures in
    c.holds.ensures ∙ ap (λ P. holds P row) c.pred.ensures.value ∙ ap (λ b. b && holds s.predicate row) (sym c.if-fits.true ∙ told)

pub returns-else-fits : goal.returns-else-fits
returns-else-fits c =
    let s = c.args.sort.now in
    let row = c.args.row.now in
    let told : c.fits.result ≡ is_fit s.columns row = fits_told s.columns c.cols.result.now row c.fits.result c.cols.ensures.value c.fits.ensures in
    c.if-fits.false ∙ ap (λ b. b && holds s.predicate row) (sym c.if-fits.false ∙ told)
