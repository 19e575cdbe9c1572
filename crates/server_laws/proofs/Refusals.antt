-- Answers that refuse, and answers that only tell.
use Rattle.std.proofs.Common.{◌≡◌, ℕ, suc, Bool, true, false, List, [], ◌∷◌, Option, Some, None, Result, Ok, Err, refl, subst, IfSome, codes}
use Rattle.std.specs.FinMap as finmap
use Rattle.serde_json.specs.Data.{Data, object, Members}
use Rattle.plain_values.proofs.Common.{Row}
use Rattle.plain_values.specs.declared.value.Kind.{Kind}
use Rattle.plain_values.specs.declared.value.Value.{Value}
use Rattle.lens_specs.specs.Common.{Name, Rows, violating_row, Clash, violating_pair, Tables, Lens, sort_of, get}
use Rattle.io_specs.specs.Lines as lines
use Rattle.server_specs.specs.Common.{Line, line, catalogue, CatalogFault, language, State, EditRefusal, Listed, in_rows, in_remove, in_add, Answer, told, in_edit, nullable_column, bad_record, long_line, not_json, bad_request, syntax, unknown_name, BatchEdit, Asked, json_of, asked_in, unless_wrong, request_from, request, BadRow, rows_in, value_in, about, find_told, found_told, fault_answer, Sent, whole, edited, as_set, set_in, edit_of, sent_view, is_stale, changed_at, unless_stale, unless_off, unless_clash, of_sort, tested, asked_view, settled, foretold, at_tables, put_in, edit_tables, then_edits, edits_from, first_nullable, sheet_told, read_settled, import_settled, imported_by, defined, changed}
use Rattle.grammar_specs.specs.Common.{syntax_at}
use Rattle.server_specs.specs.EditRefusal as refusals
use Rattle.server_specs.specs.Request.{request_in, request_of}
use Rattle.server_laws.specs.Answers.{IsRefusal, IsFailure, IsAccepted, IsChange, told_version, version_of_refusal}
use Rattle.server_laws.specs.PutLaws.{AllFit}
use Rattle.csv_specs.specs.Sheets.{unsheet}
use Rattle.csv_specs.proofs.Fitting.{unsheet_fits}

-- ---- what is told

-- no failure, and the version that is told is that of the state
pub record IsTold (s : State) (a : Answer) : Type 0 where
  pub failure : IsFailure a → ⊥
  pub version : IfSome (told_version a) (λ version. version ≡ s.version)

-- ---- refusals

-- nothing is done
pub record Refuses (s : State) (a : Answer) : Type 0 where
  pub told : IsTold s a
  pub refusal : IsRefusal a
  pub accepted : IsAccepted a → ⊥
  pub change : IsChange a → ⊥

-- a refusal that is no failure, and tells no other version
pub refuses : (s : State) (a : Answer) → IsRefusal a → IfSome (told_version a) (λ version. version ≡ s.version) → (IsFailure a → ⊥) → Refuses s a
refuses s (defined version) h told failure = absurd h
refuses s (changed changes version) h told failure = absurd h
refuses s a h told failure = record { told = record { failure = failure; version = told }; refusal = h; accepted = λ k. k; change = λ k. k }

-- the one refusal is the other
same_refuses : {A : Type 0} (s : State) (a b : Answer) → Refuses s a → ◌≡◌ {A = Result A Answer} (Err a) (Err b) → Refuses s b
same_refuses s a b h e = let is : a ≡ b = cc in subst (Refuses s) is h

-- each refusal of it is one
abbrev pub AllRefuse : {A : Type 0} → State → Result A Answer → Type 0
AllRefuse {A} s r = (a : Answer) → r ≡ Err a → Refuses s a

-- ---- refusals of changes

-- the version that it tells, if it tells one, is the state's
abbrev pub IsPresent : State → EditRefusal → Type 0
IsPresent s why = IfSome (version_of_refusal why) (λ version. version ≡ s.version)

-- each refusal of it is such a one
abbrev pub AllPresent : {A : Type 0} → State → Result A EditRefusal → Type 0
AllPresent {A} s r = (why : EditRefusal) → r ≡ Err why → IsPresent s why

same_present : {A : Type 0} (s : State) (why other : EditRefusal) → IsPresent s why → ◌≡◌ {A = Result A EditRefusal} (Err why) (Err other) → IsPresent s other
same_present s why other h e = let is : why ≡ other = cc in subst (IsPresent s) is h

set_present : (s : State) (which : Listed) (r : Result (List Row) BadRow) → AllPresent s (as_set which r)
set_present s which (Ok rows) why e = cc
set_present s which (Err bad) why e = same_present s (refusals.bad_row which bad.0 bad.1) why tt e

edit_present : (s : State) (old : Rows) (removed added : Result Rows EditRefusal) → AllPresent s removed → AllPresent s added → AllPresent s (edit_of old removed added)
edit_present s old (Err bad) added h k why e = h why e
edit_present s old (Ok R) (Err bad) h k why e = k why e
edit_present s old (Ok R) (Ok A) h k why e = cc

sent_present : (s : State) (L : Lens) (sent : Sent) → AllPresent s (sent_view sent L s)
sent_present s L (whole rows) why e = set_present s in_rows (rows_in (sort_of L).columns rows) why e
sent_present s L (edited remove add) why e =
    edit_present s (get L s.tables) (set_in in_remove (sort_of L).columns remove) (set_in in_add (sort_of L).columns add)
    (set_present s in_remove (rows_in (sort_of L).columns remove)) (set_present s in_add (rows_in (sort_of L).columns add)) why e

stale_first : (s : State) (b : Bool) (at : ℕ) (later : Result Rows EditRefusal) → AllPresent s later → AllPresent s (unless_stale b at s.version later)
stale_first s true at later h why e = same_present s (refusals.stale at s.version) why refl e
stale_first s false at later h why e = h why e

off_first : (s : State) (o : Option Row) (later : Result Rows EditRefusal) → AllPresent s later → AllPresent s (unless_off o later)
off_first s None later h why e = h why e
off_first s (Some row) later h why e = same_present s (refusals.off_predicate row) why tt e

clash_last : (s : State) (c : Option Clash) (rows : Rows) → AllPresent s (unless_clash c rows)
clash_last s None rows why e = cc
clash_last s (Some c) rows why e = same_present s (refusals.clash c.edge c.first c.second) why tt e

tested_present : (s : State) (L : Lens) (on : Option ℕ) (r : Result Rows EditRefusal) → AllPresent s r → AllPresent s (tested s L on r)
tested_present s L on (Err bad) h why e = h why e
tested_present s L on (Ok N) h why e = stale_first s (is_stale s L on) (changed_at s L) (of_sort (sort_of L) N)
    (off_first s (violating_row (sort_of L).predicate N) (unless_clash (violating_pair (sort_of L).tree N) N) (clash_last s (violating_pair (sort_of L).tree N) N)) why e

-- rows that are read and then refused tell the state's version, if any
pub read_present : (s : State) (L : Lens) (on : Option ℕ) (M : Rows) → AllPresent s (tested s L on (Ok M))
read_present s L on M why e = tested_present s L on (Ok M) (λ other is. cc) why e

-- a change that is refused tells the state's version, if any
pub asked_present : (s : State) (L : Lens) (sent : Sent) (on : Option ℕ) → AllPresent s (asked_view s L sent on)
asked_present s L sent on why e = tested_present s L on (sent_view sent L s) (sent_present s L sent) why e

-- so the answer to a put, an edit or a preview refuses
pub told_refuses : (s : State) (why : EditRefusal) → IsPresent s why → Refuses s (told why)
told_refuses s (refusals.unknown_name name) h = refuses s (unknown_name name) tt tt (λ f. f)
told_refuses s why h = refuses s (told why) tt h (λ f. f)

-- and so does that to a batch
pub edit_refuses : (s : State) (i : ℕ) (why : EditRefusal) → IsPresent s why → Refuses s (in_edit i why)
edit_refuses s i why h = refuses s (in_edit i why) tt h (λ f. f)

-- a change that is refused is refused so
pub asked_refuses : (s : State) (L : Lens) (sent : Sent) (on : Option ℕ) (why : EditRefusal) → asked_view s L sent on ≡ Err why → Refuses s (told why)
asked_refuses s L sent on why e = told_refuses s why (asked_present s L sent on why e)

-- an import whose rows are refused is refused so
pub read_refuses : (s : State) (L : Lens) (on : Option ℕ) (M : Rows) (why : EditRefusal) → tested s L on (Ok M) ≡ Err why → Refuses s (told why)
read_refuses s L on M why e = told_refuses s why (read_present s L on M why e)

-- ---- edits of a batch

put_present : (s : State) (r : Result Rows EditRefusal) (L : Lens) (db : Tables) → AllPresent s r → AllPresent s (put_in r L db)
put_present s (Err bad) L db h why e = same_present s bad why (h bad refl) e
put_present s (Ok N) L db h why e = cc

one_present : (s : State) (e : BatchEdit) (on : Option ℕ) (o : Option Lens) (db : Tables) → AllPresent s (edit_tables e on o s db)
one_present s e on None db why is = same_present s (refusals.unknown_name e.view) why tt is
one_present s e on (Some L) db why is = put_present s (asked_view (at_tables s db) L (edited e.remove e.add) on) L db (asked_present (at_tables s db) L (edited e.remove e.add) on) why is

then_present : (s : State) (i : ℕ) (others : Tables → Result Tables (ℕ × EditRefusal)) (r : Result Tables EditRefusal) → AllPresent s r
    → ((db : Tables) (found : ℕ × EditRefusal) → others db ≡ Err found → IsPresent s found.1)
    → (found : ℕ × EditRefusal) → then_edits i others r ≡ Err found → IsPresent s found.1
then_present s i others (Err why) h k found e = let is : (i, why) ≡ found = cc in subst (λ w. IsPresent s w.1) is (h why refl)
then_present s i others (Ok db) h k found e = k db found e

-- an edit of a batch that is refused tells the state's version, if any
pub edits_present : (s : State) (i : ℕ) (on : Option ℕ) (edits : List BatchEdit) (db : Tables) (found : ℕ × EditRefusal) → edits_from i on s edits db ≡ Err found → IsPresent s found.1
edits_present s i on [] db found e = cc
edits_present s i on (b ∷ edits) db found e =
    then_present s i (edits_from (suc i) on s edits) (edit_tables b on (finmap.get (catalogue s.texts) b.view) s db) (one_present s b on (finmap.get (catalogue s.texts) b.view) db)
    (λ d w. edits_present s (suc i) on edits d w) found e

-- ---- imports

-- what holds where an import is refused, and where the rows that it reads are put, holds of what it is answered
module _ (P : Answer × State → Type 0) (s : State) (on : Option ℕ) (refused_so : (a : Answer) → Refuses s a → P (a, s)) where
  of_read : (L : Lens) (r : Result Rows ℕ) → ((M : Rows) → r ≡ Ok M → P (settled (tested s L on (Ok M)) L s)) → P (read_settled r on L s)
  of_read L (Err place) puts = refused_so (bad_record place) (refuses s (bad_record place) tt tt (λ f. f))
  of_read L (Ok M) puts = puts M refl

  of_plain : (L : Lens) (csv : List ℕ) (o : Option Name) → ((M : Rows) → unsheet (sort_of L).columns csv ≡ Ok M → P (settled (tested s L on (Ok M)) L s)) → P (import_settled o csv on L s)
  of_plain L csv (Some column) puts = refused_so (nullable_column column) (refuses s (nullable_column column) tt tt (λ f. f))
  of_plain L csv None puts = of_read L (unsheet (sort_of L).columns csv) puts

  of_named : (csv : List ℕ) (name : Name) (o : Option Lens) → finmap.get (catalogue s.texts) name ≡ o
      → ((L : Lens) → finmap.get (catalogue s.texts) name ≡ Some L → (M : Rows) → AllFit (sort_of L).columns M → P (settled (tested s L on (Ok M)) L s))
      → P (imported_by csv on name o s)
  of_named csv name None is puts = refused_so (unknown_name name) (refuses s (unknown_name name) tt tt (λ f. f))
  of_named csv name (Some L) is puts = of_plain L csv (first_nullable (sort_of L).columns) (λ M e. puts L is M (unsheet_fits (sort_of L).columns csv M e))

  pub of_import : (csv : List ℕ) (name : Name)
      → ((L : Lens) → finmap.get (catalogue s.texts) name ≡ Some L → (M : Rows) → AllFit (sort_of L).columns M → P (settled (tested s L on (Ok M)) L s))
      → P (imported_by csv on name (finmap.get (catalogue s.texts) name) s)
  of_import csv name puts = of_named csv name (finmap.get (catalogue s.texts) name) refl puts

-- ---- what is asked

pub told_foretold : (s : State) (L : Lens) (r : Result Rows EditRefusal) → AllPresent s r → IsTold s (foretold r L s)
told_foretold s L (Err why) h = (told_refuses s why (h why refl)).told
told_foretold s L (Ok N) h = record { failure = λ h. h; version = refl }

pub told_about : (s : State) (tell : Lens → Answer) (name : Name) (o : Option Lens) → ((L : Lens) → IsTold s (tell L)) → IsTold s (about tell name o)
told_about s tell name None h = (refuses s (unknown_name name) tt tt (λ f. f)).told
told_about s tell name (Some L) h = h L

told_found : (s : State) (L : Lens) (column : Name) (v : Option Value) → IsTold s (found_told s L column v)
told_found s L column None = record { failure = λ h. h; version = tt }
told_found s L column (Some value) = record { failure = λ h. h; version = refl }

pub told_column : (s : State) (L : Lens) (column : Name) (json : Data) (o : Option Kind) → IsTold s (find_told s L column json o)
told_column s L column json None = record { failure = λ h. h; version = tt }
told_column s L column json (Some kind) = told_found s L column (value_in kind json)

pub told_sheet : (s : State) (L : Lens) (o : Option Name) → IsTold s (sheet_told o s L)
told_sheet s L None = record { failure = λ h. h; version = refl }
told_sheet s L (Some column) = record { failure = λ h. h; version = tt }

-- ---- definitions

-- a definition is refused for its fault
pub fault_refuses : (s : State) (fault : CatalogFault) → Refuses s (fault_answer fault)
fault_refuses s (language (syntax_at at)) = refuses s (syntax at) tt tt (λ f. f)
fault_refuses s fault = refuses s (fault_answer fault) tt tt (λ f. f)

-- ---- requests

unless_wrong_err : (s : State) (o : Option (List ℕ)) (asked : Asked) (ms : Members) → AllRefuse s (unless_wrong o asked ms)
unless_wrong_err s None asked ms a e = cc
unless_wrong_err s (Some name) asked ms a e = same_refuses s (bad_request name) a (refuses s (bad_request name) tt tt (λ f. f)) e

request_in_err : (s : State) (o : Option Asked) (ms : Members) → AllRefuse s (request_in o ms)
request_in_err s None ms a e = same_refuses s (bad_request (codes "do")) a (refuses s (bad_request (codes "do")) tt tt (λ f. f)) e
request_in_err s (Some asked) ms a e = unless_wrong_err s _ asked ms a e

request_of_err : (s : State) (d : Data) → AllRefuse s (request_of d)
request_of_err s (object ms) a e = request_in_err s (asked_in ms) ms a e
request_of_err s d a e = same_refuses s (bad_request (codes "do")) a (refuses s (bad_request (codes "do")) tt tt (λ f. f)) e

request_from_err : (s : State) (o : Option Data) → AllRefuse s (request_from o)
request_from_err s None a e = same_refuses s not_json a (refuses s not_json tt tt (λ f. f)) e
request_from_err s (Some d) a e = request_of_err s d a e

-- a line that is no request is refused
pub request_err : (s : State) (l : Line) → AllRefuse s (request l)
unfolding request
request_err s (line bytes) a e = request_from_err s (json_of bytes) a e
request_err s lines.too_long a e = same_refuses s long_line a (refuses s long_line tt tt (λ f. f)) e
