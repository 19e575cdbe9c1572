use Rattle.std.proofs.Common.{◌≡◌, ◌∙◌, ◌≤◌, ℕ, Ok, Result, arith, refl, subst, sym}
use Rattle.no_memory.specs.declared.NoMemory.{NoMemory}
use Rattle.request_text.specs.Answers.{answer_view}
use Rattle.request_text.specs.Requests.{request_view}
use Rattle.server_specs.specs.Common.{Request, State}
use Rattle.server_specs.specs.Batching.{batch_answer}
use Rattle.server_specs.specs.Questions.{list_answer}
use Rattle.server_specs.specs.Undoing.{undo_answer}
use Rattle.lens_server.proofs.NamedViews.{answer_planned, answer_told, none_back}
use Rattle.lens_server.proofs.WalkedRows.{batch_texts, change_walks, definition_walks, undo_texts}
use Rattle.lens_server.specs.Counting.{row_count}
use Rattle.lens_server.specs.Planning.{PlansFor}
use Rattle.database.specs.States.{state_of}
use Rattle.database.specs.declared.database.Database.{Database}
use Rattle.database.specs.declared.plan.Plan.{Plan}
use Rattle.lens_server.proofs.dispatch.plan_request.Goals as goal

-- what is asked is this
asked_so : {X : Type 0} (view : X → Request) (s : State) {q asked : X} {database : Database} {r : Result Plan NoMemory} {walked walked' looked looked' : ℕ} → q ≡ asked
    → PlansFor (Ok (view asked)) s database r walked walked' looked looked' → PlansFor (Ok (view q)) s database r walked walked' looked looked'
asked_so view s {database = database} {r = r} {walked = walked} {walked' = walked'} {looked = looked} {looked' = looked'} is h =
    subst (λ p. PlansFor (Ok (view p)) s database r walked walked' looked looked') (sym is) h

pub returns-in-Define-clause-plans : goal.returns-in-Define-clause-plans
returns-in-Define-clause-plans g c =
    let database = c.args.database.now in
    let many = row_count database.tables.present.relations in
    let few : row_count c.plan_definition.new.database.tables.present.relations ≤ many =
    subst (λ t. row_count t.present.relations ≤ many) (sym c.plan_definition.ensures.same.tables) (omega arith) in
    asked_so request_view (state_of database) c.in-Define.is (record {
      plan = c.plan_definition.ensures.plan;
      reads_back = none_back c.plan_definition.result;
      walk = definition_walks c.plan_definition.result c.plan_definition.new.database c.args.walked.now many few;
      look = omega arith;
      walks_on = omega arith;
    })

pub returns-in-List-clause-plans : goal.returns-in-List-clause-plans
returns-in-List-clause-plans g c =
    let database = c.args.database.now in let expected = list_answer (state_of database) in
    asked_so request_view (state_of database) c.in-List.is
    (answer_planned expected
    (answer_told (λ p. p.answer) c.list_answer.result c.plan_answer.result c.plan_answer.ensures.answer c.plan_answer.ensures.staged answer_view expected database (λ _. refl) c.list_answer.ensures)
    c.plan_answer.ensures.staged (none_back c.plan_answer.result) (omega arith, omega arith) (omega arith))

pub returns-in-Batch-clause-plans : goal.returns-in-Batch-clause-plans
returns-in-Batch-clause-plans g c =
    let s = state_of c.args.database.now in
    asked_so request_view s c.in-Batch.is (record {
      plan = c.plan_batch.ensures.plan;
      reads_back = none_back c.plan_batch.result;
      walk =
          change_walks c.plan_batch.result (batch_answer c.in-Batch.edits c.in-Batch.on s) c.plan_batch.new.database c.args.walked.now c.args.walked.now 0 c.plan_batch.ensures.plan
          (batch_texts c.in-Batch.edits c.in-Batch.on s ∙ sym c.plan_batch.ensures.same.texts) (omega arith);
      look = c.plan_batch.ensures.looked;
      walks_on = omega arith;
    })

pub returns-in-Undo-clause-plans : goal.returns-in-Undo-clause-plans
returns-in-Undo-clause-plans g c =
    let database = c.args.database.now in let s = state_of database in
    asked_so request_view s c.in-Undo.is (record {
      plan = c.plan_undo.ensures;
      reads_back = none_back c.plan_undo.result;
      walk = change_walks c.plan_undo.result (undo_answer s) database c.args.walked.now c.args.walked.now 0 c.plan_undo.ensures (undo_texts s) (omega arith);
      look = omega arith;
      walks_on = omega arith;
    })

pub returns-in-Read-clause-plans : goal.returns-in-Read-clause-plans
returns-in-Read-clause-plans g c = asked_so request_view (state_of c.args.database.now) c.in-Read.is c.plan_view.ensures

pub returns-in-Find-clause-plans : goal.returns-in-Find-clause-plans
returns-in-Find-clause-plans g c = asked_so request_view (state_of c.args.database.now) c.in-Find.is c.plan_view-in-Find.ensures

pub returns-in-Put-clause-plans : goal.returns-in-Put-clause-plans
returns-in-Put-clause-plans g c = asked_so request_view (state_of c.args.database.now) c.in-Put.is c.plan_view-in-Put.ensures

pub returns-in-Edit-clause-plans : goal.returns-in-Edit-clause-plans
returns-in-Edit-clause-plans g c = asked_so request_view (state_of c.args.database.now) c.in-Edit.is c.plan_view-in-Edit.ensures

pub returns-in-Preview-clause-plans : goal.returns-in-Preview-clause-plans
returns-in-Preview-clause-plans g c = asked_so request_view (state_of c.args.database.now) c.in-Preview.is c.plan_view-in-Preview.ensures

pub returns-in-Describe-clause-plans : goal.returns-in-Describe-clause-plans
returns-in-Describe-clause-plans g c = asked_so request_view (state_of c.args.database.now) c.in-Describe.is c.plan_view-in-Describe.ensures

pub returns-in-Export-clause-plans : goal.returns-in-Export-clause-plans
returns-in-Export-clause-plans g c = asked_so request_view (state_of c.args.database.now) c.in-Export.is c.plan_view-in-Export.ensures

pub returns-in-Import-clause-plans : goal.returns-in-Import-clause-plans
returns-in-Import-clause-plans g c = asked_so request_view (state_of c.args.database.now) c.in-Import.is c.plan_view-in-Import.ensures
