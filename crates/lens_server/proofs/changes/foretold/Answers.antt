use Rattle.std.proofs.Common.{◌≡◌, ◌∙◌, ap, subst, sym}
use Rattle.plain_values.proofs.Common.{IfOk-weaker}
use Rattle.request_text.specs.Answers.{answer_view}
use Rattle.server_specs.specs.Common.{changed, foretold}
use Rattle.view_changes.specs.Puts.{IsPut, TellsRefusal}
use Rattle.lens_server.proofs.NamedViews.{refused_so}
use Rattle.lens_server.proofs.changes.foretold.Goals as goal

pub returns-in-Ok : goal.returns-in-Ok
returns-in-Ok c = λ s L expected version asks.
    let w = subst (λ r. IsPut L s.tables r expected) c.in-Ok.is asks in
    (λ i. changed ((c.new.ensures ∙ w.3) i) (version i)) ∙ sym (ap (λ r. foretold r L s) w.1)

pub returns-in-Err : goal.returns-in-Err
returns-in-Err c = λ s L expected version asks.
    IfOk-weaker c.into_answer.result (λ answer. TellsRefusal (answer_view answer) c.in-Err.refusal) (λ answer. answer_view answer ≡ foretold expected L s)
    (λ answer tells.
    let why = refused_so L s.tables c.in-Err.refusal expected (answer_view answer) (subst (λ r. IsPut L s.tables r expected) c.in-Err.is asks) tells in
    why.2 ∙ ap (λ e. foretold e L s) (sym why.1)) c.into_answer.ensures
