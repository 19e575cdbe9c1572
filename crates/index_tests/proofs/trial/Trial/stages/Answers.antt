use Rattle.std.proofs.Common.{[], ◌∷◌, ap, sym, ◌∙◌, subst, refl, is_some}
use Rattle.std.specs.FinMap as finmap
use Rattle.lens_specs.specs.Common.{AppliesTo}
use Rattle.signed_delta.proofs.Differences.{diff_applies_to}
use Rattle.base_index.specs.Held.{relation_in}
use Rattle.base_index.proofs.Known.{there_after}
use Rattle.index_tests.proofs.trial.Trial.stages.Goals as goal

pub stage-requires-clause-apply : goal.stage-requires-clause-apply
stage-requires-clause-apply g c =
    let t = c.self.inside.name in
    let tables = ap (λ h. h.present.relations) c.unstage.ensures in
    let old = c.in_ok-old.old in (
      ap (λ m. is_some (finmap.get m t)) tables ∙ c.self.invariant.present,
      subst (AppliesTo c.in_ok-delta.delta) (c.in_ok-old.ensures ∙ sym (ap (λ m. relation_in m t) tables))
          (subst (λ d. AppliesTo d old) (sym c.in_ok-delta.ensures)
          (diff_applies_to old c.in_ok-new.new (c.in_ok-new.ensures.columns ∙ c.columns.ensures) c.in_ok-new.ensures.fit)),
      refl,
      tt,
    )

pub invariant_of-self-2 : goal.invariant_of-self-2
invariant_of-self-2 g c =
    let t = c.self.inside.name in
    let here = ap (λ h. is_some (finmap.get h.present.relations t)) c.unstage.ensures ∙ c.self.invariant.present in
    record {
      present = ap (λ h. is_some (finmap.get h.present.relations t)) c.in_ok-stage.ensures.ok ∙ here;
      next = ap (λ h. is_some (finmap.get h.next.relations t)) c.in_ok-stage.ensures.ok ∙ there_after (record { table = t; delta = c.in_ok-delta.delta } ∷ []) c.unstage.new.self.present.relations t here;
      held = ap (λ h. is_some h.held) c.in_ok-stage.ensures.ok ∙ ap (λ h. is_some h.held) c.unstage.ensures ∙ c.self.invariant.held;
      before = λ st is. c.self.invariant.before st (sym (ap (λ h. h.held) c.in_ok-stage.ensures.ok ∙ ap (λ h. h.held) c.unstage.ensures) ∙ is);
    }
