-- What becomes of a request: each of the twelve is of one of five families, and what is proved of the families holds of them all.
use Rattle.std.proofs.Common.{◌≡◌, ◌+◌, ◌-◌, ℕ, length, List, Option, Some, None, Result, Ok, Err, refl, slice_get, arith}
use Rattle.std.specs.FinMap as finmap
use Rattle.lens_specs.specs.Common.{Name, Rows, Tables, Lens, sort_of, put as put_rows, TableDelta, changes, differences}
use Rattle.grammar_specs.specs.Common.{Definition}
use Rattle.server_specs.specs.Common.{Line, catalogue, CatalogFault, judged, State, EditRefusal, Answer, defined, Request, define, read, find_at, put, edit, preview, describe, batch, undo, export, import, request, finding_told, rows_told, sort_told, answer_definition, with_defined, Sent, whole, edited, asked_view, tested, accept, settled, foretold, changed_by, edits_from, batch_settled, undone, first_nullable, sheet_told, answer, answer_request, AreStored, Valid, nothing_to_undo, unknown_name}
use Rattle.grammar_laws.specs.Reading.{reading}
use Rattle.server_specs.specs.Request.{list}
use Rattle.server_laws.specs.AnswerLaws.{IsQuestion}
use Rattle.server_laws.specs.UndoLaws.{made, move_of}
use Rattle.server_laws.proofs.Asked.{GivesTyped, asked_typed, read_typed}
use Rattle.server_laws.proofs.Edited.{edits_stored}
use Rattle.server_laws.proofs.Led.{IsChangeTo, put_change, tables_change}
use Rattle.server_laws.proofs.Refusals.{AllPresent, AllRefuse, IsPresent, IsTold, Refuses, asked_present, edit_refuses, edits_present, fault_refuses, of_import, read_present, request_err, told_about, told_column, told_foretold, told_refuses, told_sheet, refuses}
use Rattle.server_laws.proofs.Stored.{IsHere, lens_here}

-- The answer to a request and the state after it: a question is answered, a request is refused, a definition is taken, the tables
-- become others by a put, an edit, an import or a batch, or the last change is taken back.
pub data Outcome (s : State) : Result Request Answer → Answer × State → Type 0 where
  is_told : {r : Result Request Answer} {a : Answer} → IsQuestion r → IsTold s a → Outcome s r (a, s)
  is_refused : {r : Result Request Answer} {a : Answer} → Refuses s a → Outcome s r (a, s)
  is_defined : (text : List ℕ) (d : Definition) → judged (catalogue s.texts) (reading text) ≡ Ok d → Outcome s (Ok (define text)) (defined (s.version + 1), with_defined text d s)
  is_changed : {r : Result Request Answer} (ds : List TableDelta) (db : Tables) → move_of r ≡ made → (Valid s → IsChangeTo s ds db) → Outcome s r (accept db ds s)
  is_undone : (cs : List TableDelta) → slice_get s.past (length s.past - 1) ≡ Some cs → Outcome s (Ok undo) (undone (Some cs) s)

of_definition : (s : State) (text : List ℕ) (d : Result Definition CatalogFault) → judged (catalogue s.texts) (reading text) ≡ d → Outcome s (Ok (define text)) (answer_definition text d s)
of_definition s text (Err fault) j = is_refused (fault_refuses s fault)
of_definition s text (Ok d) j = is_defined text d j

of_undo : (s : State) (o : Option (List TableDelta)) → slice_get s.past (length s.past - 1) ≡ o → Outcome s (Ok undo) (undone o s)
of_undo s None is = is_refused (refuses s nothing_to_undo tt tt (λ f. f))
of_undo s (Some cs) is = is_undone cs is

-- ---- changes

module _ (s : State) (r : Result Request Answer) (makes : move_of r ≡ made) where
  of_settled : (L : Lens) → (Valid s → IsHere s L) → (n : Result Rows EditRefusal) → AllPresent s n → (Valid s → GivesTyped L n) → Outcome s r (settled n L s)
  of_settled L here (Err why) present typed = is_refused (told_refuses s why (present why refl))
  of_settled L here (Ok N) present typed = is_changed (changes L N s.tables) (put_rows L N s.tables) makes (λ v. put_change s L N v (here v) (typed v N refl))

  of_changed : (sent : Sent) (on : Option ℕ) (name : Name) (o : Option Lens) → finmap.get (catalogue s.texts) name ≡ o → Outcome s r (changed_by sent on name o s)
  of_changed sent on name None is = is_refused (refuses s (unknown_name name) tt tt (λ f. f))
  of_changed sent on name (Some L) is =
      of_settled L (λ v. lens_here s v name L is) (asked_view s L sent on) (asked_present s L sent on) (λ v. asked_typed s L (lens_here s v name L is) sent on)

  of_batch : (n : Result Tables (ℕ × EditRefusal)) → ((found : ℕ × EditRefusal) → n ≡ Err found → IsPresent s found.1) → (Valid s → (db : Tables) → n ≡ Ok db → AreStored (catalogue s.texts) db)
      → Outcome s r (batch_settled n s)
  of_batch (Err found) present stored = is_refused (edit_refuses s found.0 found.1 (present found refl))
  of_batch (Ok db) present stored = is_changed (differences (finmap.keys s.tables) s.tables db) db makes (λ v. tables_change s db v (stored v db refl))

-- ---- each request

of_request : (s : State) (r : Result Request Answer) → AllRefuse s r → Outcome s r (answer_request r s)
of_request s (Err refusal) h = is_refused (h refusal refl)
of_request s (Ok (define text)) h = of_definition s text (judged (catalogue s.texts) (reading text)) refl
of_request s (Ok (read name)) h = is_told tt (told_about s (rows_told s) name (finmap.get (catalogue s.texts) name) (λ L. record { failure = λ h. h; version = refl }))
of_request s (Ok (find_at name column json)) h =
    is_told tt (told_about s (finding_told s column json) name (finmap.get (catalogue s.texts) name) (λ L. told_column s L column json (finmap.get (sort_of L).columns column)))
of_request s (Ok (put name rows on)) h = of_changed s (Ok (put name rows on)) refl (whole rows) on name (finmap.get (catalogue s.texts) name) refl
of_request s (Ok (edit name remove add on)) h = of_changed s (Ok (edit name remove add on)) refl (edited remove add) on name (finmap.get (catalogue s.texts) name) refl
of_request s (Ok (preview name remove add on)) h =
    is_told tt (told_about s (λ L. foretold (asked_view s L (edited remove add) on) L s) name (finmap.get (catalogue s.texts) name)
    (λ L. told_foretold s L (asked_view s L (edited remove add) on) (asked_present s L (edited remove add) on)))
of_request s (Ok (describe name)) h = is_told tt (told_about s (sort_told s) name (finmap.get (catalogue s.texts) name) (λ L. record { failure = λ h. h; version = refl }))
of_request s (Ok list) h = is_told tt (record { failure = λ h. h; version = refl })
of_request s (Ok (batch edits on)) h =
    of_batch s (Ok (batch edits on)) refl (edits_from 0 on s edits s.tables) (edits_present s 0 on edits s.tables) (λ v db is. edits_stored s v 0 on edits s.tables db v.tables is)
of_request s (Ok undo) h = of_undo s (slice_get s.past (length s.past - 1)) refl
of_request s (Ok (export name)) h =
    is_told tt (told_about s (λ L. sheet_told (first_nullable (sort_of L).columns) s L) name (finmap.get (catalogue s.texts) name) (λ L. told_sheet s L (first_nullable (sort_of L).columns)))
of_request s (Ok (import name csv on)) h =
    of_import (Outcome s (Ok (import name csv on))) s on (λ a refuses. is_refused refuses) csv name
    (λ L is M fits. of_settled s (Ok (import name csv on)) refl L (λ v. lens_here s v name L is) (tested s L on (Ok M)) (read_present s L on M) (λ v. read_typed s L on M fits))

pub outcome : (s : State) (l : Line) → Outcome s (request l) (answer s l)
unfolding answer
outcome s l = of_request s (request l) (request_err s l)

-- a question changes nothing that can be undone
pub questions_make_nothing : (r : Result Request Answer) → IsQuestion r → move_of r ≡ made → ⊥
questions_make_nothing (Ok list) q m = cc
questions_make_nothing r q m = grind arith
