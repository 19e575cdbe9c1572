-- The laws of lines that export a view as a text of comma-separated values, and of lines that import such a text.
use Rattle.std.specs.Prelude.{◌≡◌, ◌≢◌, ◌++◌, ℕ, false, List, [], ◌∷◌, Option, Some, None, Ok, Err}
use Rattle.std.specs.FinMap as finmap
use Rattle.plain_values.specs.SortedSet as set
use Rattle.lens_specs.specs.Common.{Name, Rows, Tables, Lens, sort_of, get, tables_of}
use Rattle.io_specs.specs.Lines.{Line}
use Rattle.catalog_specs.specs.Catalogue.{catalogue}
use Rattle.csv_specs.specs.SheetLaws.{AreRight}
use Rattle.csv_specs.specs.Sheets.{sheet, unsheet}
use Rattle.server_specs.specs.State.{State}
use Rattle.server_specs.specs.Answer.{exported, changed, unknown_name, nullable_column, bad_record}
use Rattle.server_specs.specs.Request.{export, import, request}
use Rattle.server_specs.specs.Changing.{is_stale, tested, settled}
use Rattle.server_specs.specs.Exporting.{first_nullable}
use Rattle.server_specs.specs.Answering.{answer}
use Rattle.server_specs.specs.Session.{Exchange, Session, last_state}
use Rattle.server_specs.specs.Validity.{Valid}
use Rattle.server_laws.specs.ChangeLaws.{IsImportLine}

-- ---- lines that are refused

-- the line exports the view of the name, or imports into it
pub data IsSheetLine (l : Line) (name : Name) : Type 0 where
  exports : request l ≡ Ok (export name) → IsSheetLine l name
  imports : (csv : List ℕ) (on : Option ℕ) → request l ≡ Ok (import name csv on) → IsSheetLine l name

-- a name that has no lens is refused first
abbrev pub SheetsKnowTheirView : Type 0
SheetsKnowTheirView = (s : State) (l : Line) (name : Name) → IsSheetLine l name → finmap.get (catalogue s.texts) name ≡ None
    → answer s l ≡ (unknown_name name, s)

-- then a view with a column that may be null: the least such column is told
abbrev pub SheetsHaveNoNulls : Type 0
SheetsHaveNoNulls = (s : State) (l : Line) (name : Name) (L : Lens) → IsSheetLine l name → finmap.get (catalogue s.texts) name ≡ Some L
    → (column : Name) → first_nullable (sort_of L).columns ≡ Some column → answer s l ≡ (nullable_column column, s)

-- and then a text that cannot be read: the place of its first wrong record is told
abbrev pub BadRecordsAreTold : Type 0
BadRecordsAreTold = (s : State) (l : Line) (name : Name) (L : Lens) (csv : List ℕ) (on : Option ℕ) → IsImportLine s l name L csv on
    → (place : ℕ) → unsheet (sort_of L).columns csv ≡ Err place → answer s l ≡ (bad_record place, s)

-- ---- exports

-- a line that exports a view that is there and has no column that may be null
pub record IsExportLine (s : State) (l : Line) (name : Name) (L : Lens) : Type 0 where
  pub asked : request l ≡ Ok (export name)
  pub lens : finmap.get (catalogue s.texts) name ≡ Some L
  pub plain : first_nullable (sort_of L).columns ≡ None

-- it is answered with the text of the view
abbrev pub ExportsAreSheets : Type 0
ExportsAreSheets = (s : State) (l : Line) (name : Name) (L : Lens) → IsExportLine s l name L
    → answer s l ≡ (exported (sheet (sort_of L).columns (get L s.tables)) s.version, s)

-- ---- imports

-- An import puts the rows that were read, as a put of them would: through the same tests of the version and of the sort. So it also
-- keeps the laws of lines that send a new view.
abbrev pub ImportsArePuts : Type 0
ImportsArePuts = (s : State) (l : Line) (name : Name) (L : Lens) (csv : List ℕ) (on : Option ℕ) → IsImportLine s l name L csv on
    → (N : Rows) → unsheet (sort_of L).columns csv ≡ Ok N → answer s l ≡ settled (tested s L on (Ok N)) L s

-- an import leaves each table that is not the lens's, accepted or refused
abbrev pub ImportsLeaveOthers : Type 0
ImportsLeaveOthers = (s : State) (l : Line) (name : Name) (L : Lens) (csv : List ℕ) (on : Option ℕ) → request l ≡ Ok (import name csv on)
    → finmap.get (catalogue s.texts) name ≡ Some L
    → (table : Name) → set.contains (tables_of L) table ≡ false → finmap.get (answer s l).1.tables table ≡ finmap.get s.tables table

-- ---- imports of exports

-- the text of the view reads back as its rows
abbrev pub ReadsBack : Lens → Tables → Type 0
ReadsBack L db = unsheet (sort_of L).columns (sheet (sort_of L).columns (get L db)) ≡ Ok (get L db)

-- It does, in a valid state, where the view has a column, none may be null, and its names and its values are such as can be written.
abbrev pub RightSheetsReadBack : Type 0
RightSheetsReadBack = (s : State) → Valid s → (name : Name) (L : Lens) → finmap.get (catalogue s.texts) name ≡ Some L → first_nullable (sort_of L).columns ≡ None
    → finmap.keys (sort_of L).columns ≢ [] → AreRight (sort_of L).columns (get L s.tables) → ReadsBack L s.tables

-- An import of what an export gave changes nothing, where the view is as it was then, and the version is not stale.
abbrev pub ImportsOfExports : Type 0
ImportsOfExports = (s t : State) → Valid t → (l m : Line) (name : Name) (L : Lens) (on : Option ℕ) → IsExportLine s l name L → ReadsBack L s.tables
    → finmap.get (catalogue t.texts) name ≡ Some L → get L t.tables ≡ get L s.tables
    → request m ≡ Ok (import name (sheet (sort_of L).columns (get L s.tables)) on) → is_stale t L on ≡ false
    → answer t m ≡ (changed [] t.version, t)

-- After some exchanges from s on, e exports the view of the lens, and is answered with this text at this version; and after some
-- more, f imports the text, when no table of the view was changed after that version, and the version that it rests on, if on any,
-- is not stale.
pub record ImportsExport (s : State) (before : List Exchange) (e : Exchange) (between : List Exchange) (f : Exchange) (name : Name) (L : Lens) (csv : List ℕ) (version : ℕ) (on : Option ℕ) : Type 0 where
  pub line : IsExportLine (last_state s before) e.line name L
  pub told : (answer (last_state s before) e.line).0 ≡ exported csv version
  pub back : ReadsBack L (last_state s before).tables
  pub asked : request f.line ≡ Ok (import name csv on)
  pub unmoved : is_stale (last_state e.state between) L (Some version) ≡ false
  pub fresh : is_stale (last_state e.state between) L on ≡ false

-- In each session from a valid state, such an import is accepted, and changes nothing.
abbrev pub ExportsComeBack : Type 0
ExportsComeBack = (s : State) (count : ℕ) (lines : List Line) (replies : List (List ℕ)) (last : State) (count' : ℕ) → Valid s
    → (session : Session s count lines replies last count') → (before between after : List Exchange) (e f : Exchange)
    → session.exchanges ≡ before ++ e ∷ (between ++ f ∷ after)
    → (name : Name) (L : Lens) (csv : List ℕ) (version : ℕ) (on : Option ℕ) → ImportsExport s before e between f name L csv version on
    → answer (last_state e.state between) f.line ≡ (changed [] (last_state e.state between).version, last_state e.state between)
