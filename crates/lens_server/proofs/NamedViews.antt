-- Requests that name a view, from what is told of its lens.
use Rattle.std.proofs.Common.{◌≡◌, ◌∙◌, ◌+◌, ◌≤◌, ℕ, Bool, true, false, List, [], Option, Some, None, Result, Ok, Err, ap, refl, subst, sym, arith, IfOk, Vec, if◌then◌else◌}
use Rattle.plain_values.proofs.Common.{IfOk-at_ok, IfOk-weaker, Global}
use Rattle.no_memory.specs.declared.NoMemory.{NoMemory}
use Rattle.signed_delta.specs.declared.delta.TableDelta.{TableDelta}
use Rattle.std.specs.FinMap as finmap
use Rattle.lens_specs.specs.Common.{Lens, Tables, sort_of, Name, Rows}
use Rattle.csv_specs.specs.Sheets.{unsheet}
use Rattle.server_specs.specs.Common.{catalogue, Answer, told, unknown_name, EditRefusal, answer_request, asked_view, changed_by, edited, foretold, settled, tested, whole, first_nullable, import_settled, imported_by, read_settled, sheet_told, about, finding_told, rows_told, sort_told, State}
use Rattle.request_text.specs.Answers.{answer_view, edit_refusal_view}
use Rattle.server_specs.specs.State.{unchanged}
use Rattle.opened_view.specs.Seen.{lens_of, seen, tables_under}
use Rattle.opened_view.specs.declared.opened.Opened.{Opened}
use Rattle.view_changes.specs.Puts.{IsPut, TellsRefusal}
use Rattle.view_changes.specs.declared.refusal.Refusal.{Refusal}
use Rattle.view_changes.specs.declared.refusal.Refusal.TheVariants as refusal
use Rattle.view_changes.specs.Sizes.{differs_by}
use Rattle.view_changes.specs.Sizes.{imported_by as imported_by_text}
use Rattle.database.specs.Opening.{IsOpened}
use Rattle.database.specs.Plans.{IsPlan, Leads}
use Rattle.database.specs.Staging.{steps_of}
use Rattle.database.specs.States.{state_of}
use Rattle.database.specs.declared.database.Database.{Database}
use Rattle.database.specs.declared.plan.Plan.{Plan}
use Rattle.database.specs.declared.plan.Staged.{Staged}
use Rattle.lens_server.specs.Counting.{RisesBy, Walks, edit_looks, find_looks, import_looks, is_asked_by, most_looked, most_walked, of_lens, put_looks, row_count}
use Rattle.lens_server.specs.Exports.{ExportReadsBack, NamedReadsBack}
use Rattle.view_changes.specs.Sheets.{IsSheetOf}
use Rattle.view_changes.specs.declared.sheets.SheetFault.{SheetFault}
use Rattle.view_changes.specs.declared.sheets.SheetFault.TheVariants as sheet
use Rattle.lens_server.specs.SheetFaults.{TellsSheet}
use Rattle.lens_server.specs.Planning.{Plans, PlansFor, PlansView}
use Rattle.lens_server.specs.ViewRequests.{IsToldBack, looks_of, request_of, told_of, walks_of}
use Rattle.lens_server.specs.declared.views.ViewRequest.{ViewRequest}
use Rattle.lens_server.specs.declared.views.ViewRequest.TheVariants as asked

-- ---- what an opened view shows

-- a state without its definitions and its history
abbrev pub bare : State → State
bare s = record { texts = []; tables = s.tables; version = s.version; last = s.last; past = [] }

-- is what is seen of the database when its view is opened
pub seen_is : (opened : Opened) (database : Database) → IsOpened opened database → seen opened ≡ bare (state_of database)
seen_is opened database h = (λ i. record { texts = []; tables = (h.tables i).present.relations; version = h.version i; last = h.last i; past = [] })

-- ---- the lens of a name

-- where the name has this lens, the request is answered by it
told_known : (q : ViewRequest) (name : Name) (L : Lens) (s : State) → Some L ≡ finmap.get (catalogue s.texts) name → answer_request (Ok (request_of name q)) s ≡ told_of q L s
told_known asked.Read name L s is = ap (λ o. unchanged (about (rows_told s) name o) s) (sym is)
told_known (asked.Find column value) name L s is = ap (λ o. unchanged (about (finding_told s column value) name o) s) (sym is)
told_known (asked.Put rows on) name L s is = ap (λ o. changed_by (whole rows) on name o s) (sym is)
told_known (asked.Edit remove add on) name L s is = ap (λ o. changed_by (edited remove add) on name o s) (sym is)
told_known (asked.Preview remove add on) name L s is = ap (λ o. unchanged (about (λ M. foretold (asked_view s M (edited remove add) on) M s) name o) s) (sym is)
told_known asked.Describe name L s is = ap (λ o. unchanged (about (sort_told s) name o) s) (sym is)
told_known asked.Export name L s is = ap (λ o. unchanged (about (λ M. sheet_told (first_nullable (sort_of M).columns) s M) name o) s) (sym is)
told_known (asked.Import csv on) name L s is = ap (λ o. imported_by csv on name o s) (sym is)

-- where it has none, that is told
told_unknown : (q : ViewRequest) (name : Name) (s : State) → None ≡ finmap.get (catalogue s.texts) name → answer_request (Ok (request_of name q)) s ≡ unchanged (unknown_name name) s
told_unknown asked.Read name s is = ap (λ o. unchanged (about (rows_told s) name o) s) (sym is)
told_unknown (asked.Find column value) name s is = ap (λ o. unchanged (about (finding_told s column value) name o) s) (sym is)
told_unknown (asked.Put rows on) name s is = ap (λ o. changed_by (whole rows) on name o s) (sym is)
told_unknown (asked.Edit remove add on) name s is = ap (λ o. changed_by (edited remove add) on name o s) (sym is)
told_unknown (asked.Preview remove add on) name s is = ap (λ o. unchanged (about (λ M. foretold (asked_view s M (edited remove add) on) M s) name o) s) (sym is)
told_unknown asked.Describe name s is = ap (λ o. unchanged (about (sort_told s) name o) s) (sym is)
told_unknown asked.Export name s is = ap (λ o. unchanged (about (λ M. sheet_told (first_nullable (sort_of M).columns) s M) name o) s) (sym is)
told_unknown (asked.Import csv on) name s is = ap (λ o. imported_by csv on name o s) (sym is)

-- it may walk what its lens may
walks_known : (q : ViewRequest) (name : Name) (L : Lens) (s : State) → Some L ≡ finmap.get (catalogue s.texts) name → most_walked (Ok (request_of name q)) s ≡ walks_of q L s.tables
walks_known (asked.Find column value) name L s is = ap (λ o. if is_asked_by column o then 0 else row_count s.tables) (sym is)
walks_known q name L s is = refl

-- and look at what its lens may
looks_known : (q : ViewRequest) (name : Name) (L : Lens) (s : State) → Some L ≡ finmap.get (catalogue s.texts) name → most_looked (Ok (request_of name q)) s ≡ looks_of q L s.tables
looks_known (asked.Find column value) name L s is = ap (of_lens (find_looks s.tables column)) (sym is)
looks_known (asked.Put rows on) name L s is = ap (of_lens (put_looks s.tables rows)) (sym is)
looks_known (asked.Edit remove add on) name L s is = ap (of_lens (edit_looks s.tables remove add)) (sym is)
looks_known (asked.Preview remove add on) name L s is = ap (of_lens (edit_looks s.tables remove add)) (sym is)
looks_known (asked.Import csv on) name L s is = ap (of_lens (import_looks s.tables csv)) (sym is)
looks_known q name L s is = refl

-- what it exports reads back
back_known : (q : ViewRequest) (name : Name) (L : Lens) (s : State) → Some L ≡ finmap.get (catalogue s.texts) name → IsToldBack q L s.tables → ExportReadsBack (Ok (request_of name q)) s
back_known asked.Export name L s is h = subst (λ o. NamedReadsBack o s.tables) is h
back_known q name L s is h = h

back_unknown : (q : ViewRequest) (name : Name) (s : State) → None ≡ finmap.get (catalogue s.texts) name → ExportReadsBack (Ok (request_of name q)) s
back_unknown asked.Export name s is = subst (λ o. NamedReadsBack o s.tables) is tt
back_unknown q name s is = tt

-- ---- plans

-- a plan without a change answers, and leaves the state
pub unchanged_plan : (database : Database) (plan : Plan) (answer : Answer) → answer_view plan.answer ≡ answer → plan.staged ≡ None → IsPlan plan (unchanged answer (state_of database)) database
unchanged_plan database plan answer is none = record { answer = is; leads = subst (λ o. Leads o (state_of database) database) (sym none) refl }

-- and walks no more when it is settled
unchanged_walks : (database : Database) (o : Option Staged) (old new most : ℕ) → o ≡ None → new ≤ old + most → new + steps_of o database ≤ old + most
unchanged_walks database o old new most none h = subst (λ p. new + steps_of p database ≤ old + most) (sym none) (omega (arith, h))

answer_walks : (r : Result Plan NoMemory) (database : Database) (old new most : ℕ) → IfOk r (λ plan. plan.staged ≡ None) → new ≤ old + most → Walks r database old new most
answer_walks (Ok plan) database old new most none h = unchanged_walks database plan.staged old new most none h
answer_walks (Err e) database old new most none h = h

-- what holds of an answer holds of the plan to give it alone
module _ {X : Type 0} (f : Plan → X) (a : Result X NoMemory) (r : Result Plan NoMemory) (is : IfOk r (λ plan. a ≡ Ok (f plan))) (none : IfOk r (λ plan. plan.staged ≡ None)) where
  pub answer_fits : (Q : X → Type 0) (P : Plan → Type 0) → IfOk a Q → ((plan : Plan) → plan.staged ≡ None → Q (f plan) → P plan) → IfOk r P
  answer_fits Q P told fits =
      elim r as (λ r. IfOk r (λ plan. a ≡ Ok (f plan)) → IfOk r (λ plan. plan.staged ≡ None) → IfOk r P) [
        | Ok plan ↦ λ is none. fits plan none (IfOk-at_ok Q is told)
        | Err e ↦ λ _ _. tt
      ] is none

  -- it is the one that is expected
  pub answer_told : (view : X → Answer) (expected : Answer) (database : Database) → ((plan : Plan) → view (f plan) ≡ answer_view plan.answer) → IfOk a (λ x. view x ≡ expected)
      → IfOk r (λ plan. IsPlan plan (unchanged expected (state_of database)) database)
  answer_told view expected database same told =
      answer_fits (λ x. view x ≡ expected) (λ plan. IsPlan plan (unchanged expected (state_of database)) database) told (λ plan n e. unchanged_plan database plan expected (sym (same plan) ∙ e) n)

-- the plan to give an answer alone
pub answer_planned : (expected : Answer) {back : Type 0} {walks looks : ℕ} {database : Database} {r : Result Plan NoMemory} {walked walked' looked looked' : ℕ}
    → IfOk r (λ plan. IsPlan plan (unchanged expected (state_of database)) database) → IfOk r (λ plan. plan.staged ≡ None) → IfOk r (λ _. back) → RisesBy walks walked walked' → looked' ≤ looked + looks
    → Plans (unchanged expected (state_of database)) back walks looks database r walked walked' looked looked'
answer_planned expected {walks = walks} {database = database} {r = r} {walked = walked} {walked' = walked'} plan none back walk look =
    record { plan = plan; reads_back = back; walk = answer_walks r database walked walked' walks none walk.1; look = look; walks_on = walk.0 }

-- nothing that reads back is owed
pub none_back : (r : Result Plan NoMemory) → IfOk r (λ _. Unit {0})
none_back (Ok plan) = tt
none_back (Err e) = tt

-- where the name has this lens, the plan for the lens is the one for the request
pub known_planned : (q : ViewRequest) (name : Name) (L : Lens) (database : Database) (r : Result Plan NoMemory) (walked walked' looked looked' : ℕ) → Some L ≡ finmap.get (catalogue database.catalog.texts) name
    → PlansView q L database r walked walked' looked looked' → PlansFor (Ok (request_of name q)) (state_of database) database r walked walked' looked looked'
known_planned q name L database r walked walked' looked looked' is h =
    let s = state_of database in record {
      plan = subst (λ x. IfOk r (λ plan. IsPlan plan x database)) (sym (told_known q name L s is)) h.plan;
      reads_back = IfOk-weaker r (λ _. IsToldBack q L s.tables) (λ _. ExportReadsBack (Ok (request_of name q)) s) (λ _ back. back_known q name L s is back) h.reads_back;
      walk = subst (Walks r database walked walked') (sym (walks_known q name L s is)) h.walk;
      look = subst (λ n. looked' ≤ looked + n) (sym (looks_known q name L s is)) h.look;
      walks_on = h.walks_on;
    }

-- where it has none, the plan is to tell that
pub unknown_planned : (q : ViewRequest) (name : Name) (database : Database) (plan : Plan) (walked looked : ℕ) → None ≡ finmap.get (catalogue database.catalog.texts) name
    → answer_view plan.answer ≡ unknown_name name → plan.staged ≡ None → PlansFor (Ok (request_of name q)) (state_of database) database (Ok plan) walked walked looked looked
unknown_planned q name database plan walked looked is answer none =
    let s = state_of database in record {
      plan = subst (λ x. IsPlan plan x database) (sym (told_unknown q name s is)) (unchanged_plan database plan (unknown_name name) answer none);
      reads_back = back_unknown q name s is;
      walk = unchanged_walks database plan.staged walked walked (most_walked (Ok (request_of name q)) s) none (omega arith);
      look = omega arith;
      walks_on = omega arith;
    }

-- a find walks nothing by the left side of a dependency
pub found_few : (b : Bool) (n old new : ℕ) → new ≤ old + n → (b ≡ true → new ≡ old) → new ≤ old + (if b then 0 else n)
found_few true n old new h k = let e = k refl in omega (arith, e)
found_few false n old new h k = h

-- ---- imports

-- where the text gives none, that is told
pub import_refused : (text : List ℕ) (on : Option ℕ) (L : Lens) (s : State) (fault : SheetFault) (answer : Answer) → IsSheetOf (sort_of L).columns text (Err fault) → TellsSheet answer fault
    → unchanged answer s ≡ import_settled (first_nullable (sort_of L).columns) text on L s
import_refused text on L s (sheet.NullableColumn col) answer is told = ap (λ a. unchanged a s) told ∙ sym (ap (λ o. import_settled o text on L s) is)
import_refused text on L s (sheet.BadRecord place) answer is told =
    ap (λ a. unchanged a s) told ∙ sym (ap (λ o. import_settled o text on L s) is.0 ∙ ap (λ r. read_settled r on L s) is.1)
import_refused text on L s sheet.NoMemory answer is told = absurd told

-- where the text has rows
pub import_read : (text : List ℕ) (on : Option ℕ) (L : Lens) (s : State) (rows : Rows) → first_nullable (sort_of L).columns ≡ None → unsheet (sort_of L).columns text ≡ Ok rows
    → import_settled (first_nullable (sort_of L).columns) text on L s ≡ settled (tested s L on (Ok rows)) L s
import_read text on L s rows plain is = ap (λ o. import_settled o text on L s) plain ∙ ap (λ r. read_settled r on L s) is

-- how many rows it changes
pub imported_is : (db : Tables) (L : Lens) (text : List ℕ) (rows : Rows) → unsheet (sort_of L).columns text ≡ Ok rows → imported_by_text db L text ≡ differs_by db L rows
imported_is db L text rows e = ap (λ (r : Result Rows ℕ). elim r as (λ _. ℕ) [ Ok rows ↦ differs_by db L rows | Err place ↦ 0 ]) e

-- ---- refusals

-- what is asked is refused for what the answer tells
pub refused_so : (L : Lens) (db : Tables) (r : Refusal) (expected : Result Rows EditRefusal) (answer : Answer) → IsPut L db (Err r) expected → TellsRefusal answer r
    → (why : EditRefusal) × (expected ≡ Err why) × (answer ≡ told why)
refused_so L db (refusal.Rejected why) expected answer asks tells = (edit_refusal_view why, asks, tells)
refused_so L db refusal.NoMemory expected answer asks tells = absurd tells

-- ---- what is seen of the database

-- the text of a view goes by what is seen alone
pub sheet_seen : (o : Option Name) (L : Lens) (s : State) → sheet_told o (bare s) L ≡ sheet_told o s L
sheet_seen None L s = refl
sheet_seen (Some name) L s = refl

module _ (opened : Opened) (database : Database) (h : IsOpened opened database) where
  -- an answer that goes by what is seen is that of the state
  pub seen_told : {X : Type 0} (view : X → Answer) (f : State → Answer) (r : Result X NoMemory) → f (bare (state_of database)) ≡ f (state_of database) → IfOk r (λ a. view a ≡ f (seen opened)) → IfOk r (λ a. view a ≡ f (state_of database))
  seen_told view f r same told = IfOk-weaker r (λ a. view a ≡ f (seen opened)) (λ a. view a ≡ f (state_of database)) (λ a is. is ∙ ap f (seen_is opened database h) ∙ same) told

  -- and so is a change
  pub seen_put : (change : Result (Vec TableDelta Global) Refusal) (expected : State → Result Rows EditRefusal) → expected (bare (state_of database)) ≡ expected (state_of database)
      → IsPut (lens_of opened) (tables_under opened) change (expected (seen opened)) → IsPut (lens_of opened) (state_of database).tables change (expected (state_of database))
  seen_put change expected same is =
      subst (IsPut (lens_of opened) (state_of database).tables change) same
      (subst (λ t. IsPut (lens_of opened) t.tables change (expected t)) (seen_is opened database h) is)
