-- What is kept of valid states follows their changes.
use Rattle.std.proofs.Common.{◌≡◌, List, [], ◌∷◌, Some, Result, is_some, refl, sym, ap, subst}
use Rattle.std.specs.FinMap as finmap
use Rattle.lens_specs.specs.Common.{Tables, TableDelta, changes, Change, rows, LeadTo, inverted, define}
use Rattle.grammar_specs.specs.Common.{table, view}
use Rattle.grammar_laws.specs.Reading.{reading}
use Rattle.server_specs.specs.Common.{catalogue, State, with_defined, accept, answer, Valid, undone, Answer, told, Request, request, Line}
use Rattle.server_laws.proofs.Outcomes.{Outcome, is_told, is_refused, is_defined, is_changed, is_undone, outcome}
use Rattle.server_laws.specs.Answers.{IsChange}
use Rattle.server_laws.specs.AnswerLaws.{IsQuestion}
use Rattle.server_laws.proofs.Kept.{accept_is_kept, table_is_kept, view_is_kept, led_kept, state_is_kept}
use Rattle.server_laws.proofs.Puts.{put_is_accept}
use Rattle.server_laws.proofs.Stored.{are_there, lens_here}
use Rattle.server_laws.proofs.Taken.{judged_ok}
use Rattle.server_laws.proofs.Valid.{no_table, undo_leads}
use Rattle.server_laws.specs.KeptLaws.{KeptFollows, table_made, PutsAreKept, DefinitionsAreKept}

pub puts_kept : PutsAreKept
puts_kept s v name L e N none met = subst (λ r. KeptFollows (rows (changes L N s.tables)) s r.1) (sym (put_is_accept N L s none met))
    (accept_is_kept L N s (are_there L s.tables (lens_here s v name L e).are) (changes L N s.tables) refl)

pub definitions_kept : DefinitionsAreKept
definitions_kept s v text (table name columns deps P) j =
    let free = (judged_ok (catalogue s.texts) (reading text) (table name columns deps P) j).1.0 in
    table_is_kept text name columns s (with_defined text (table name columns deps P) s)
    (ap is_some (no_table name (finmap.get (catalogue s.texts) name) (finmap.get s.tables name) free (v.tables name))) refl refl
definitions_kept s v text (view name expr) j = view_is_kept text s (with_defined text (view name expr) s) refl refl

-- ---- any answer

abbrev IsKept : Answer × State → State → Type 0
IsKept r s = IsChange r.0 → (change : Change) × KeptFollows change s r.1

pub led_is_kept : (s t : State) (ds : List TableDelta) → LeadTo ds s.tables t.tables → t.texts ≡ s.texts → KeptFollows (rows ds) s t
led_is_kept s t ds leads texts = state_is_kept s t ds (led_kept ds s.tables t.tables leads) texts

kept_accept : (s : State) (ds : List TableDelta) (db : Tables) → LeadTo ds s.tables db → IsKept (accept db ds s) s
kept_accept s [] db leads h = absurd h
kept_accept s (d ∷ ds) db leads h = (rows (d ∷ ds), led_is_kept s (accept db (d ∷ ds) s).1 (d ∷ ds) leads refl)

kept_outcome : (s : State) → Valid s → {r : Result Request Answer} {t : Answer × State} → Outcome s r t → (IsQuestion r → ⊥) → IsKept t s
kept_outcome s v (is_told q told) asks h = absurd (asks q)
kept_outcome s v (is_refused refuses) asks h = absurd (refuses.change h)
kept_outcome s v (is_defined text d j) asks h = (define text (table_made d), definitions_kept s v text d j)
kept_outcome s v (is_changed ds db makes leads) asks h = kept_accept s ds db (leads v).leads h
kept_outcome s v (is_undone cs is) asks h = (rows (inverted cs), led_is_kept s (undone (Some cs) s).1 (inverted cs) (undo_leads s cs v is) refl)

pub changes_kept : (s : State) → Valid s → (l : Line) → (IsQuestion (request l) → ⊥) → IsChange (answer s l).0 → (change : Change) × KeptFollows change s (answer s l).1
changes_kept s v l asks h = kept_outcome s v (outcome s l) asks h
