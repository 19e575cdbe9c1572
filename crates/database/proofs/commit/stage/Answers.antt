use Rattle.std.proofs.Common.{◌≡◌, ◌∙◌, ◌+◌, ◌≤◌, ap, subst, sym}
use Rattle.database.specs.Staging.{steps_in, walked_by}
use Rattle.database.proofs.commit.stage.Goals as goal

pub returns-in-Define-clause-walked : goal.returns-in-Define-clause-walked
returns-in-Define-clause-walked g c =
    let st = c.args.tables.now.present in
    let steps : walked_by c.lens.result.now st ≡ steps_in c.args.change.now st =
    ap (λ l. walked_by l st) c.lens.ensures ∙ sym (ap (λ ch. steps_in ch st) c.in-Define.is) in
    subst (λ n. c.stage_definition.new.walked ≤ c.args.walked.now + n) steps c.stage_definition.ensures.walked
