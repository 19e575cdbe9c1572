-- That the premises of the laws of puts, of batches, of updates, of undo and of exports can be met.
use Rattle.std.specs.Prelude.{◌≡◌, ℕ, true, false, List, [], ◌∷◌, Option, Some}
use Rattle.std.specs.FinMap as finmap
use Rattle.plain_values.specs.declared.value.Value.{Value}
use Rattle.plain_values.specs.Row.{Row}
use Rattle.lens_specs.specs.Common.{Names, Name, Rows, has, Predicate, Sort, Lens, base, select, drop, get}
use Rattle.io_specs.specs.Lines.{Line}
use Rattle.catalog_specs.specs.Catalogue.{catalogue, is_table_of}
use Rattle.server_specs.specs.State.{State}
use Rattle.server_specs.specs.Answer.{text}
use Rattle.server_specs.specs.Answering.{answer}
use Rattle.server_specs.specs.Request.{BatchEdit}
use Rattle.server_specs.specs.Session.{Exchange, Session}
use Rattle.server_specs.specs.Validity.{Valid}
use Rattle.server_laws.specs.Answers.{IsAccepted, IsChange}
use Rattle.server_laws.specs.BatchLaws.{IsBatchLine}
use Rattle.server_laws.specs.PutLaws.{IsPut, put_set}
use Rattle.server_laws.specs.SheetLaws.{ImportsExport}
use Rattle.server_laws.specs.UndoLaws.{move, taken_back}
use Rattle.server_laws.specs.UpdateLaws.{RestsOnRead}

-- a valid state with a view that is no table, and an accepted put of a row that the view lacks
pub record PutsCanChange : Type 0 where
  pub state : State
  pub name : Name
  pub lens : Lens
  pub rows : Rows
  pub put : IsPut state name lens rows
  pub view : (table : Name) → is_table_of table lens ≡ false
  pub accepted : IsAccepted (put_set rows lens state).0
  pub row : Row
  pub there : has rows row ≡ true
  pub new : has (get lens state.tables) row ≡ false

-- such a put over a view that drops a column of a selection of a table
pub record DropsCanChange : Type 0 where
  pub change : PutsCanChange
  pub column : Name
  pub by : Names
  pub fill : Value
  pub predicate : Predicate
  pub table : Name
  pub sort : Sort
  pub drops : change.lens ≡ drop column by fill (select predicate (base table sort))

-- A session from a valid state: its line sends edits as a batch, which is accepted and changes a table.
pub record BatchesCanChange : Type 0 where
  pub state : State
  pub valid : Valid state
  pub lines : List Line
  pub replies : List (List ℕ)
  pub last : State
  pub session : Session state 0 lines replies last 0
  pub changing : Exchange
  pub exchanges : session.exchanges ≡ changing ∷ []
  pub edits : List BatchEdit
  pub on : Option ℕ
  pub sends : IsBatchLine changing.line edits on
  pub accepted : IsAccepted (answer state changing.line).0
  pub told : changing.reply ≡ text (answer state changing.line).0
  pub changes : IsChange (answer state changing.line).0

-- A session from a valid state in which no change can be undone: the first line changes a table, and the next one undoes that.
pub record UndosCanRestore : Type 0 where
  pub state : State
  pub valid : Valid state
  pub none : state.past ≡ []
  pub lines : List Line
  pub replies : List (List ℕ)
  pub last : State
  pub session : Session state 0 lines replies last 0
  pub changing : Exchange
  pub undoing : Exchange
  pub exchanges : session.exchanges ≡ changing ∷ undoing ∷ []
  pub changes : IsChange (answer state changing.line).0
  pub undoes : move changing.state undoing ≡ taken_back

-- A session from a valid state: the first line exports a view, which is no table and has a row, and the next one imports the text.
pub record ExportsCanComeBack : Type 0 where
  pub state : State
  pub valid : Valid state
  pub lines : List Line
  pub replies : List (List ℕ)
  pub last : State
  pub session : Session state 0 lines replies last 0
  pub exporting : Exchange
  pub importing : Exchange
  pub exchanges : session.exchanges ≡ exporting ∷ importing ∷ []
  pub name : Name
  pub lens : Lens
  pub view : (table : Name) → is_table_of table lens ≡ false
  pub row : Row
  pub there : has (get lens state.tables) row ≡ true
  pub csv : List ℕ
  pub version : ℕ
  pub on : Option ℕ
  pub imports : ImportsExport state [] exporting [] importing name lens csv version on

-- A session from a valid state in which a view, which is no table, is read, and the next line changes a table through it and rests
-- on the version read.
pub record UpdatesCanRest : Type 0 where
  pub state : State
  pub valid : Valid state
  pub lines : List Line
  pub replies : List (List ℕ)
  pub last : State
  pub session : Session state 0 lines replies last 0
  pub reading : Exchange
  pub changing : Exchange
  pub exchanges : session.exchanges ≡ reading ∷ changing ∷ []
  pub name : Name
  pub lens : Lens
  pub known : finmap.get (catalogue state.texts) name ≡ Some lens
  pub view : (table : Name) → is_table_of table lens ≡ false
  pub rows : Rows
  pub version : ℕ
  pub rests : RestsOnRead state [] reading [] changing name rows version
  pub changes : IsChange (answer reading.state changing.line).0
