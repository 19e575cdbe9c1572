use Rattle.std.proofs.Common.{subst, sym, IfOk, map}
use Rattle.lens_specs.specs.Common.{put}
use Rattle.request_text.specs.Answers.{answer_view}
use Rattle.server_laws.proofs.Led.{put_change}
use Rattle.server_specs.specs.Common.{accept, settled, told}
use Rattle.signed_delta.specs.Tables.{table_delta}
use Rattle.view_changes.specs.Puts.{IsPut, TellsRefusal}
use Rattle.lens_server.specs.Databases.{CanAccept, IsPlan, state_of}
use Rattle.lens_server.proofs.NamedViews.{answer_fits, refused_so, unchanged_plan}
use Rattle.lens_server.proofs.changes.plan_change.Goals as goal

pub returns-in-Ok : goal.returns-in-Ok
returns-in-Ok c = λ L expected here asks.
    let database = c.args.database.now in let s = state_of database in
    let w = subst (λ r. IsPut L s.tables r expected) c.in-Ok.is asks in
    let N = w.0 in
    let to = put_change s L N c.requires.valid here w.2 in
    let can : CanAccept (map table_delta c.in-Ok.deltas.items) database (put L N s.tables) =
    subst (λ ds. CanAccept ds database (put L N s.tables)) (sym w.3) (record { stored = to.stored; rising = to.deltas; leads = to.leads }) in
    subst (λ r. IfOk c.plan_changes.result (λ plan. IsPlan plan (settled r L s) database)) (sym w.1)
    (subst (λ ds. IfOk c.plan_changes.result (λ plan. IsPlan plan (accept (put L N s.tables) ds s) database)) w.3 (c.plan_changes.ensures (put L N s.tables) can))

pub returns-in-Err : goal.returns-in-Err
returns-in-Err c = λ L expected here asks.
    let database = c.args.database.now in let s = state_of database in
    answer_fits (λ p. p.answer) c.into_answer.result c.plan_answer.result c.plan_answer.ensures.answer c.plan_answer.ensures.staged
    (λ a. TellsRefusal (answer_view a) c.in-Err.refusal) (λ plan. IsPlan plan (settled expected L s) database) c.into_answer.ensures
    (λ plan none tells.
    let why = refused_so L s.tables c.in-Err.refusal expected (answer_view plan.answer) (subst (λ r. IsPut L s.tables r expected) c.in-Err.is asks) tells in
    subst (λ r. IsPlan plan (settled r L s) database) (sym why.1) (unchanged_plan database plan (told why.0) why.2 none))
