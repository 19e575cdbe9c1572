use Rattle.std.proofs.Common.{sym, arith, ◌∙◌, ◌≡◌, length}
use Rattle.plain_values.proofs.Common.{zip, length-zip, pair_fits}
use Rattle.plain_values.proofs.FitsLemmas.{pointwise_zip, pointwise_apart, eqb_other}
use Rattle.lens_values.proofs.pairs.all_fit.Goals as goal

pub returns-then-values-columns : goal.returns-then-values-columns
returns-then-values-columns c =
    let pairs = zip c.args.names.now c.args.values.now in
    let same : length pairs ≡ length c.args.columns.now = omega (arith, length-zip c.args.names.now c.args.values.now, c.requires, c.if-values-columns.true) in
    c.each_fits.ensures ∙ sym (pointwise_zip pair_fits pairs c.args.columns.now same)

pub returns-else-values-columns : goal.returns-else-values-columns
returns-else-values-columns c =
    let pairs = zip c.args.names.now c.args.values.now in
    eqb_other (length c.args.values.now) (length c.args.columns.now) c.if-values-columns.false ∙ sym (pointwise_apart pair_fits pairs c.args.columns.now (λ e. c.if-values-columns.false (omega (arith, length-zip c.args.names.now c.args.values.now, c.requires, e))))
