use Rattle.std.proofs.Common.{rules, subst, sym}
use Rattle.lens_specs.specs.Common.{IsRelation}
use Rattle.lens_specs.specs.Relation.{Fits}
use Rattle.row_sets.proofs.Fitting.{still_fits}
use Rattle.sample_rows.proofs.samples.add.Goals as goal

pub returns-clause-fit : goal.returns-clause-fit
returns-clause-fit c =
    let old = c.args.relation.now in
    let one : Fits old.columns c.args.row = search rules in
    subst IsRelation (sym c.in_ok-_new.ensures.ok) (λ row there. still_fits old.columns old.rows c.args.row c.requires one row there)
