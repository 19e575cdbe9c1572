use Rattle.std.proofs.Common.{◌≡◌, ◌*◌, ◌+◌, ◌≤◌, ℕ, IfOk, Result, arith, refl, subst, sym}
use Rattle.no_memory.specs.declared.NoMemory.{NoMemory}
use Rattle.server_laws.proofs.Changes.{texts_settled}
use Rattle.base_index.specs.Held.{Held}
use Rattle.lens_laws.proofs.Common.{fan, work}
use Rattle.lens_specs.specs.Common.{Lens, sort_of, one}
use Rattle.request_text.specs.Answers.{answer_view}
use Rattle.server_specs.specs.Common.{asked_view, edited, foretold, settled, whole, first_nullable, import_settled, sheet_told, finding_told, rows_told, sort_told, State}
use Rattle.lens_server.specs.Counting.{changed_by, row_count}
use Rattle.lens_server.specs.Databases.{lens_of, state_of}
use Rattle.lens_server.specs.Planning.{PlansView}
use Rattle.lens_server.specs.declared.views.ViewRequest.{ViewRequest}
use Rattle.lens_probe.specs.Viewed.{is_left_side}
use Rattle.view_answers.specs.Sheets.{SheetReadsBack}
use Rattle.database.specs.declared.database.Database.{Database}
use Rattle.database.specs.declared.plan.Plan.{Plan}
use Rattle.lens_server.proofs.WalkedRows.{change_walks, import_texts, read_few}
use Rattle.lens_server.proofs.NamedViews.{answer_fits, answer_planned, answer_told, found_few, none_back, seen_put, seen_told, sheet_seen}
use Rattle.lens_server.proofs.views.plan_opened.Goals as goal

-- what is asked is this
asked_so : (L : Lens) {q asked : ViewRequest} {database : Database} {r : Result Plan NoMemory} {walked walked' looked looked' : ℕ} → q ≡ asked
    → PlansView asked L database r walked walked' looked looked' → PlansView q L database r walked walked' looked looked'
asked_so L {database = database} {r = r} {walked = walked} {walked' = walked'} {looked = looked} {looked' = looked'} is h =
    subst (λ p. PlansView p L database r walked walked' looked looked') (sym is) h

pub returns-in-Read : goal.returns-in-Read
returns-in-Read g c =
    let database = c.args.database.now in let s = state_of database in let o = c.args.opened.now in let L = lens_of o in
    asked_so L c.in-Read.is
    (answer_planned (rows_told s L)
    (answer_told (λ p. p.answer) c.read_answer.result c.plan_answer.result c.plan_answer.ensures.answer c.plan_answer.ensures.staged answer_view (rows_told s L) database (λ _. refl)
    (seen_told o database c.requires.opened answer_view (λ t. rows_told t L) c.read_answer.result refl c.read_answer.ensures.answer))
    c.plan_answer.ensures.staged (none_back c.plan_answer.result) (read_few database o c.args.walked.now c.read_answer.new.walked c.requires.opened c.read_answer.ensures.walked) (omega arith))

pub returns-in-Find : goal.returns-in-Find
returns-in-Find g c =
    let database = c.args.database.now in let s = state_of database in let o = c.args.opened.now in let L = lens_of o in
    let few = read_few database o c.args.walked.now c.find_answer.new.walked c.requires.opened c.find_answer.ensures.walked in
    let told = λ (t : State). finding_told t c.in-Find.column c.in-Find.value L in
    asked_so L c.in-Find.is
    (answer_planned (told s)
    (answer_told (λ p. p.answer) c.find_answer.result c.plan_answer-in-Find.result c.plan_answer-in-Find.ensures.answer c.plan_answer-in-Find.ensures.staged answer_view (told s) database (λ _. refl)
    (seen_told o database c.requires.opened answer_view told c.find_answer.result refl c.find_answer.ensures.answer))
    c.plan_answer-in-Find.ensures.staged (none_back c.plan_answer-in-Find.result)
    (few.0, found_few (is_left_side (one c.in-Find.column) (sort_of L).tree) (row_count s.tables) c.args.walked.now c.find_answer.new.walked few.1 c.find_answer.ensures.by_key)
    (c.find_answer.ensures.looked (fan L s.tables) c.requires.opened.finds))

pub returns-in-Put : goal.returns-in-Put
returns-in-Put g c =
    let database = c.args.database.now in let s = state_of database in let o = c.args.opened.now in let L = lens_of o in
    let expected = asked_view s L (whole c.in-Put.rows) c.in-Put.on in
    let few = read_few database o c.args.walked.now c.put-change.new.walked c.requires.opened c.put-change.ensures.walked in
    let plan =
    c.plan_change.ensures L expected c.requires.opened.here.here
    (seen_put o database c.requires.opened c.put-change.result (λ t. asked_view t L (whole c.in-Put.rows) c.in-Put.on) refl c.put-change.ensures.put) in
    asked_so L c.in-Put.is (record {
      plan = plan;
      reads_back = none_back c.plan_change.result;
      walk = change_walks c.plan_change.result (settled expected L s) database c.args.walked.now c.put-change.new.walked (row_count s.tables) plan (texts_settled expected L s) few.1;
      look =
          subst (λ (t : Held). c.put-change.new.looked ≤ c.args.looked.now + 2 * work L (changed_by t.present.relations L c.in-Put.rows) (fan L s.tables)) c.requires.opened.tables
          (c.put-change.ensures.looks (fan L s.tables) c.requires.opened.finds);
      walks_on = few.0;
    })

pub returns-in-Edit : goal.returns-in-Edit
returns-in-Edit g c =
    let database = c.args.database.now in let s = state_of database in let o = c.args.opened.now in let L = lens_of o in
    let expected = asked_view s L (edited c.in-Edit.remove c.in-Edit.add) c.in-Edit.on in
    let plan =
    c.plan_change-in-Edit.ensures L expected c.requires.opened.here.here
    (seen_put o database c.requires.opened c.edit-change.result (λ t. asked_view t L (edited c.in-Edit.remove c.in-Edit.add) c.in-Edit.on) refl c.edit-change.ensures.put) in
    asked_so L c.in-Edit.is (record {
      plan = plan;
      reads_back = none_back c.plan_change-in-Edit.result;
      walk = change_walks c.plan_change-in-Edit.result (settled expected L s) database c.args.walked.now c.args.walked.now 0 plan (texts_settled expected L s) (omega arith);
      look = c.edit-change.ensures.looks (fan L s.tables) c.requires.opened.finds;
      walks_on = omega arith;
    })

pub returns-in-Preview : goal.returns-in-Preview
returns-in-Preview g c =
    let database = c.args.database.now in let s = state_of database in let o = c.args.opened.now in let L = lens_of o in
    let expected = asked_view s L (edited c.in-Preview.remove c.in-Preview.add) c.in-Preview.on in
    let asks =
    seen_put o database c.requires.opened c.edit-change-in-Preview.result (λ t. asked_view t L (edited c.in-Preview.remove c.in-Preview.add) c.in-Preview.on) refl c.edit-change-in-Preview.ensures.put in
    asked_so L c.in-Preview.is
    (answer_planned (foretold expected L s)
    (answer_told (λ p. p.answer) c.foretold.result c.plan_answer-in-Preview.result c.plan_answer-in-Preview.ensures.answer c.plan_answer-in-Preview.ensures.staged answer_view (foretold expected L s) database (λ _. refl)
    (c.foretold.ensures s L expected c.requires.opened.version asks))
    c.plan_answer-in-Preview.ensures.staged (none_back c.plan_answer-in-Preview.result) (omega arith, omega arith) (c.edit-change-in-Preview.ensures.looks (fan L s.tables) c.requires.opened.finds))

pub returns-in-Describe : goal.returns-in-Describe
returns-in-Describe g c =
    let database = c.args.database.now in let s = state_of database in let o = c.args.opened.now in let L = lens_of o in
    asked_so L c.in-Describe.is
    (answer_planned (sort_told s L)
    (answer_told (λ p. p.answer) c.type_answer.result c.plan_answer-in-Describe.result c.plan_answer-in-Describe.ensures.answer c.plan_answer-in-Describe.ensures.staged answer_view (sort_told s L) database (λ _. refl)
    (seen_told o database c.requires.opened answer_view (λ t. sort_told t L) c.type_answer.result refl c.type_answer.ensures))
    c.plan_answer-in-Describe.ensures.staged (none_back c.plan_answer-in-Describe.result) (omega arith, omega arith) (omega arith))

pub returns-in-Export : goal.returns-in-Export
returns-in-Export g c =
    let database = c.args.database.now in let s = state_of database in let o = c.args.opened.now in let L = lens_of o in
    let told = λ (t : State). sheet_told (first_nullable (sort_of L).columns) t L in
    asked_so L c.in-Export.is
    (answer_planned (told s)
    (answer_told (λ p. p.answer) c.export_answer.result c.plan_answer-in-Export.result c.plan_answer-in-Export.ensures.answer c.plan_answer-in-Export.ensures.staged answer_view (told s) database (λ _. refl)
    (seen_told o database c.requires.opened answer_view told c.export_answer.result (sheet_seen (first_nullable (sort_of L).columns) L s) c.export_answer.ensures.answer))
    c.plan_answer-in-Export.ensures.staged
    (answer_fits (λ p. p.answer) c.export_answer.result c.plan_answer-in-Export.result c.plan_answer-in-Export.ensures.answer c.plan_answer-in-Export.ensures.staged
    (λ _. SheetReadsBack L s.tables) (λ _. SheetReadsBack L s.tables)
    (subst (λ (t : Held). IfOk c.export_answer.result (λ _. SheetReadsBack L t.present.relations)) c.requires.opened.tables c.export_answer.ensures.back) (λ _ _ back. back))
    (read_few database o c.args.walked.now c.export_answer.new.walked c.requires.opened c.export_answer.ensures.walked) (omega arith))

pub returns-in-Import : goal.returns-in-Import
returns-in-Import g c =
    let database = c.args.database.now in let s = state_of database in let o = c.args.opened.now in let L = lens_of o in
    let expected = import_settled (first_nullable (sort_of L).columns) c.in-Import.csv c.in-Import.on L s in
    asked_so L c.in-Import.is (record {
      plan = c.plan_import.ensures.plan;
      reads_back = none_back c.plan_import.result;
      walk =
          change_walks c.plan_import.result expected database c.args.walked.now c.plan_import.new.walked (row_count s.tables) c.plan_import.ensures.plan
          (import_texts (first_nullable (sort_of L).columns) c.in-Import.csv c.in-Import.on L s) c.plan_import.ensures.walked.1;
      look = c.plan_import.ensures.looked;
      walks_on = c.plan_import.ensures.walked.0;
    })
