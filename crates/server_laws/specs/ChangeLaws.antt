-- The laws of lines that read, put, edit, import and preview.
use Rattle.std.specs.Prelude.{◌≡◌, ◌↔◌, ◌⊎◌, ◌≤◌, ℕ, true, false, List, [], Option, Some, None, Ok, Err}
use Rattle.std.specs.FinMap as finmap
use Rattle.serde_json.specs.Data.{Items}
use Rattle.plain_values.specs.SortedSet as set
use Rattle.plain_values.specs.Row.{Row}
use Rattle.lens_specs.specs.Common.{Name, Rows, holds, Edge, IsOf, Lens, sort_of, get, tables_of, changes, differences}
use Rattle.lens_laws.specs.Checks.{IsOff}
use Rattle.lens_laws.specs.Edits.{AreDiffs}
use Rattle.io_specs.specs.Lines.{Line}
use Rattle.catalog_specs.specs.Catalogue.{catalogue}
use Rattle.csv_specs.specs.Sheets.{unsheet}
use Rattle.server_specs.specs.State.{State}
use Rattle.server_specs.specs.EditRefusal.{EditRefusal, in_remove}
use Rattle.server_specs.specs.Answer.{shown, changed, stale, off_predicate, clash, unknown_name, bad_row, told}
use Rattle.server_specs.specs.Request.{Request, read, put, edit, preview, import, request}
use Rattle.server_specs.specs.Sending.{rows_in}
use Rattle.server_specs.specs.Changing.{Sent, whole, edited, sent_view, last_change, changed_at, is_stale, asked_view, settled}
use Rattle.server_specs.specs.Exporting.{first_nullable}
use Rattle.server_specs.specs.Answering.{answer}
use Rattle.server_specs.specs.Validity.{Valid}
use Rattle.server_laws.specs.Answers.{IsAccepted, IsRefusal}
use Rattle.server_laws.specs.PutLaws.{AllFit, IsFirstClashOf, put_set}

-- ---- lines that read

-- a line that reads a view that is there
pub record IsReadLine (s : State) (l : Line) (name : Name) (L : Lens) : Type 0 where
  pub asked : request l ≡ Ok (read name)
  pub lens : finmap.get (catalogue s.texts) name ≡ Some L

-- a line that reads shows the rows of the view, with the version
abbrev pub LinesReadViews : Type 0
LinesReadViews = (s : State) (l : Line) (name : Name) (L : Lens) → IsReadLine s l name L → answer s l ≡ (shown (get L s.tables) s.version, s)

-- ---- lines that change

-- the request that sends a change of a view, resting on a version, if on any
abbrev pub change_request : Sent → Name → Option ℕ → Request
change_request (whole rows) name on = put name rows on
change_request (edited remove add) name on = edit name remove add on

-- a line that changes a view that is there
pub record IsChangeLine (s : State) (l : Line) (name : Name) (L : Lens) (sent : Sent) (on : Option ℕ) : Type 0 where
  pub asked : request l ≡ Ok (change_request sent name on)
  pub lens : finmap.get (catalogue s.texts) name ≡ Some L

-- a line that imports a text into a view that is there and has no column that may be null
pub record IsImportLine (s : State) (l : Line) (name : Name) (L : Lens) (csv : List ℕ) (on : Option ℕ) : Type 0 where
  pub asked : request l ≡ Ok (import name csv on)
  pub lens : finmap.get (catalogue s.texts) name ≡ Some L
  pub plain : first_nullable (sort_of L).columns ≡ None

-- such a line, and the new view that its rows make, or that its text has
pub data SendsView (s : State) (l : Line) (name : Name) (L : Lens) (on : Option ℕ) (N : Rows) : Type 0 where
  by_rows : (sent : Sent) → IsChangeLine s l name L sent on → sent_view sent L s ≡ Ok N → SendsView s l name L on N
  by_text : (csv : List ℕ) → IsImportLine s l name L csv on → unsheet (sort_of L).columns csv ≡ Ok N → SendsView s l name L on N

-- a line that changes puts the new view that it asks for, or is refused
abbrev pub LinesSettle : Type 0
LinesSettle = (s : State) (l : Line) (name : Name) (L : Lens) (sent : Sent) (on : Option ℕ) → IsChangeLine s l name L sent on
    → answer s l ≡ settled (asked_view s L sent on) L s

-- a name that has no lens is refused first
abbrev pub UnknownNamesAreTold : Type 0
UnknownNamesAreTold = (s : State) (l : Line) (name : Name) (sent : Sent) (on : Option ℕ) → request l ≡ Ok (change_request sent name on)
    → finmap.get (catalogue s.texts) name ≡ None → answer s l ≡ (unknown_name name, s)

-- then a bad row
abbrev pub BadRowsAreTold : Type 0
BadRowsAreTold = (s : State) (l : Line) (name : Name) (L : Lens) (sent : Sent) (on : Option ℕ) → IsChangeLine s l name L sent on
    → (bad : EditRefusal) → sent_view sent L s ≡ Err bad → answer s l ≡ (told bad, s)

-- and a bad row to remove before one to add
abbrev pub RemovedComeFirst : Type 0
RemovedComeFirst = (s : State) (l : Line) (name : Name) (L : Lens) (remove add : Items) (on : Option ℕ) → IsChangeLine s l name L (edited remove add) on
    → (index : ℕ) (column : List ℕ) → rows_in (sort_of L).columns remove ≡ Err (index, column) → answer s l ≡ (bad_row in_remove index column, s)

-- then a version that is stale: the answer tells the last change
abbrev pub StaleIsTold : Type 0
StaleIsTold = (s : State) (l : Line) (name : Name) (L : Lens) (on : Option ℕ) (N : Rows) → SendsView s l name L on N
    → is_stale s L on ≡ true → answer s l ≡ (stale (changed_at s L) s.version, s)

-- the last change of a lens is no earlier than that of each of its tables
abbrev pub LastChangeIsGreatest : Type 0
LastChangeIsGreatest = (s : State) (L : Lens) (table : Name) → set.contains (tables_of L) table ≡ true → last_change s.last table ≤ changed_at s L

-- what rests on the present version is not stale
abbrev pub PresentIsNotStale : Type 0
PresentIsNotStale = (s : State) → Valid s → (L : Lens) → is_stale s L (Some s.version) ≡ false

-- ---- lines that are not stale

-- every row of the new view that a line sends has the columns of the lens, each of its kind
abbrev pub SentViewsFit : Type 0
SentViewsFit = (s : State) → Valid s → (l : Line) (name : Name) (L : Lens) (on : Option ℕ) (N : Rows) → SendsView s l name L on N
    → AllFit (sort_of L).columns N

-- a line that is not stale puts the set that it sends
abbrev pub LinesPutSets : Type 0
LinesPutSets = (s : State) (l : Line) (name : Name) (L : Lens) (on : Option ℕ) (N : Rows) → SendsView s l name L on N
    → is_stale s L on ≡ false → answer s l ≡ put_set N L s

-- it is accepted exactly where the new view is of the lens's sort
abbrev pub LinesAcceptedWhereTyped : Type 0
LinesAcceptedWhereTyped = (s : State) → Valid s → (l : Line) (name : Name) (L : Lens) (on : Option ℕ) (N : Rows) → SendsView s l name L on N
    → is_stale s L on ≡ false → IsAccepted (answer s l).0 ↔ IsOf N (sort_of L)

-- it is refused exactly where there is a least row that the predicate refuses, and that changes nothing
abbrev pub LinesRefusedByLeastRow : Type 0
LinesRefusedByLeastRow = (s : State) (l : Line) (name : Name) (L : Lens) (on : Option ℕ) (N : Rows) → SendsView s l name L on N
    → is_stale s L on ≡ false → (row : Row) → (answer s l ≡ (off_predicate row, s)) ↔ IsOff (holds (sort_of L).predicate) N row

-- it is refused with an edge and two rows exactly where they are the first clash, and that changes nothing
abbrev pub LinesRefusedByFirstClash : Type 0
LinesRefusedByFirstClash = (s : State) (l : Line) (name : Name) (L : Lens) (on : Option ℕ) (N : Rows) → SendsView s l name L on N
    → is_stale s L on ≡ false → (edge : Edge) (first second : Row)
    → (answer s l ≡ (clash edge first second, s)) ↔ IsFirstClashOf (sort_of L) N edge first second

-- and there is no fourth case
abbrev pub LinesAcceptedOrRefused : Type 0
LinesAcceptedOrRefused = (s : State) (l : Line) (name : Name) (L : Lens) (on : Option ℕ) (N : Rows) → SendsView s l name L on N → is_stale s L on ≡ false
    → IsAccepted (answer s l).0 ⊎ (((row : Row) × (answer s l ≡ (off_predicate row, s))) ⊎ ((edge : Edge) × (first : Row) × (second : Row) × (answer s l ≡ (clash edge first second, s))))

-- GetPut: a line that sends what the view shows changes nothing
abbrev pub NothingIsChanged : Type 0
NothingIsChanged = (s : State) → Valid s → (l : Line) (name : Name) (L : Lens) (on : Option ℕ) → SendsView s l name L on (get L s.tables)
    → is_stale s L on ≡ false → answer s l ≡ (changed [] s.version, s)

-- ---- lines that are accepted

-- PutGet: what a line put, the next line reads
abbrev pub NextLineReads : Type 0
NextLineReads = (s : State) → Valid s → (l m : Line) (name : Name) (L : Lens) (on : Option ℕ) (N : Rows) → SendsView s l name L on N
    → IsAccepted (answer s l).0 → request m ≡ Ok (read name) → (answer (answer s l).1 m).0 ≡ shown N (answer s l).1.version

-- the answer tells the changes, with the version after it
abbrev pub LinesTellChanges : Type 0
LinesTellChanges = (s : State) (l : Line) (name : Name) (L : Lens) (on : Option ℕ) (N : Rows) → SendsView s l name L on N
    → IsAccepted (answer s l).0 → (answer s l).0 ≡ changed (changes L N s.tables) (answer s l).1.version

-- they are the differences of the tables before and after, those that are not empty, by rising names of the lens's tables
abbrev pub LinesMakeDifferences : Type 0
LinesMakeDifferences = (s : State) (l : Line) (name : Name) (L : Lens) (on : Option ℕ) (N : Rows) → SendsView s l name L on N → IsAccepted (answer s l).0
    → (changes L N s.tables ≡ differences (set.items (tables_of L)) s.tables (answer s l).1.tables)
    × AreDiffs s.tables (answer s l).1.tables (changes L N s.tables)

-- a line that changes leaves each table that is not the lens's, accepted or refused
abbrev pub LinesLeaveOthers : Type 0
LinesLeaveOthers = (s : State) (l : Line) (name : Name) (L : Lens) (sent : Sent) (on : Option ℕ) → IsChangeLine s l name L sent on
    → (table : Name) → set.contains (tables_of L) table ≡ false → finmap.get (answer s l).1.tables table ≡ finmap.get s.tables table

-- ---- previews

-- A preview is answered as the edit would be: with its refusal, or with its changes at the present version.
abbrev pub PreviewsForetell : Type 0
PreviewsForetell = (s : State) (l m : Line) (name : Name) (remove add : Items) (on : Option ℕ)
    → request l ≡ Ok (edit name remove add on) → request m ≡ Ok (preview name remove add on)
    → (IsRefusal (answer s l).0 × ((answer s m).0 ≡ (answer s l).0))
    ⊎ ((L : Lens) × (N : Rows) × ((answer s l).0 ≡ changed (changes L N s.tables) (answer s l).1.version) × ((answer s m).0 ≡ changed (changes L N s.tables) s.version))
