use Rattle.std.proofs.Common.{◌∙◌, subst, sym}
use Rattle.lens_specs.specs.Common.{Fits}
use Rattle.lens_probe.specs.Viewed.{shown}
use Rattle.find_rows.proofs.Keys.{with_fit}
use Rattle.find_rows.proofs.finding.find_rows.Goals as goal

pub with_rows-requires : goal.with_rows-requires
with_rows-requires g c =
    let R = shown c.args.view.now in
    with_fit c.args.col.now c.args.value.now R.rows c.in_ok-rows.rows c.in_ok-columns.columns c.in_ok-rows.ensures.found
    (λ r i. subst (λ U. Fits U r) (sym (c.in_ok-columns.ensures ∙ c.columns.ensures.columns)) (c.columns.ensures.fit r i))
