use Rattle.std.proofs.Common.{◌+◌, ◌*◌, ◌≤◌, Ok, refl, subst, sym, IfOk}
use Rattle.base_index.specs.Held.{Held}
use Rattle.lens_laws.proofs.Common.{fan, work}
use Rattle.request_text.specs.Answers.{answer_view}
use Rattle.lens_specs.specs.Common.{sort_of}
use Rattle.server_specs.specs.Common.{first_nullable, import_settled, tested}
use Rattle.lens_server.specs.Counting.{differs_by}
use Rattle.lens_server.specs.Databases.{IsPlan, lens_of, state_of}
use Rattle.lens_server.specs.SheetFaults.{TellsSheet}
use Rattle.lens_server.proofs.WalkedRows.{read_few}
use Rattle.lens_server.proofs.NamedViews.{answer_fits, import_read, import_refused, imported_is, seen_put, unchanged_plan}
use Rattle.lens_server.proofs.views.plan_import.Goals as goal

pub put_rows-change-requires : goal.put_rows-change-requires
put_rows-change-requires g c = c.in-Ok.ensures.2

pub returns-in-Ok-clause-plan : goal.returns-in-Ok-clause-plan
returns-in-Ok-clause-plan g c =
    let o = c.args.opened.now in let L = lens_of o in let database = c.args.database.now in let s = state_of database in let rows = c.in-Ok.rows in
    subst (λ x. IfOk c.plan_change.result (λ plan. IsPlan plan x database)) (sym (import_read c.args.csv.now c.args.on L s rows c.in-Ok.ensures.0 c.in-Ok.ensures.1))
    (c.plan_change.ensures L (tested s L c.args.on (Ok rows)) c.requires.opened.here.here
    (seen_put o database c.requires.opened c.put_rows-change.result (λ t. tested t L c.args.on (Ok rows)) refl c.put_rows-change.ensures.put))

pub returns-in-Ok-clause-walked : goal.returns-in-Ok-clause-walked
returns-in-Ok-clause-walked g c = read_few c.args.database.now c.args.opened.now c.args.walked.now c.put_rows-change.new.walked c.requires.opened c.put_rows-change.ensures.walked

pub returns-in-Ok-clause-looked : goal.returns-in-Ok-clause-looked
returns-in-Ok-clause-looked g c =
    let o = c.args.opened.now in let L = lens_of o in let db = c.args.database.now.tables.present.relations in let rows = c.in-Ok.rows in
    let w = fan L db in
    subst (λ n. c.put_rows-change.new.looked ≤ c.args.looked.now + 2 * work L n w) (sym (imported_is db L c.args.csv.now rows c.in-Ok.ensures.1))
    (subst (λ (t : Held). c.put_rows-change.new.looked ≤ c.args.looked.now + 2 * work L (differs_by t.present.relations L rows) w) c.requires.opened.tables
    (c.put_rows-change.ensures.looks w c.requires.opened.finds))

pub returns-in-Err-clause-plan : goal.returns-in-Err-clause-plan
returns-in-Err-clause-plan g c =
    let L = lens_of c.args.opened.now in let database = c.args.database.now in let s = state_of database in
    answer_fits (λ p. p.answer) c.sheet_refusal.result c.plan_answer.result c.plan_answer.ensures.answer c.plan_answer.ensures.staged
    (λ a. TellsSheet (answer_view a) c.in-Err.fault) (λ plan. IsPlan plan (import_settled (first_nullable (sort_of L).columns) c.args.csv.now c.args.on L s) database) c.sheet_refusal.ensures
    (λ plan none tells. subst (λ x. IsPlan plan x database) (import_refused c.args.csv.now c.args.on L s c.in-Err.fault (answer_view plan.answer) c.in-Err.ensures tells)
    (unchanged_plan database plan (answer_view plan.answer) refl none))
