use Rattle.std.proofs.Common.{◌≡◌, sym, subst}
use Rattle.std.proofs.lemmas.Result.{IfOk-at_ok}
use Rattle.lens_specs.specs.Common.{Delta, AppliesTo, diff}
use Rattle.signed_delta.proofs.Differences.{diff_applies_to}
use Rattle.value_tests.proofs.relations.applied.Goals as goal

pub apply-requires : goal.apply-requires
apply-requires g c =
    let old = c.args.old.now in
    let new = c.args.new.now in
    subst (λ (d : Delta). AppliesTo d old) (sym (IfOk-at_ok (λ delta. delta ≡ diff old.rows new.rows) c.expect-delta.ensures c.diff.ensures))
    (diff_applies_to old new c.requires c.rows.ensures.fit)
