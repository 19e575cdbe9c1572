-- The law of a run that serves lines.
use Rattle.std.specs.Prelude.{◌≡◌, ◌≢◌, ◌↔◌, ◌⊎◌, ◌++◌, ℕ, Bool, false, List, [], ◌∷◌, flat_map, Option, Some, Ok, IfSome}
use Rattle.std.specs.FinMap as finmap
use Rattle.std.specs.List.{AllByRecursion}
use Rattle.std.specs.Io.KnownBytes.{Appends}
use Rattle.serde_json.specs.Data.{Data}
use Rattle.plain_values.specs.declared.value.Kind.{Kind}
use Rattle.plain_values.specs.declared.value.Value.{Value}
use Rattle.lens_specs.specs.Common.{TableDelta, changes, differences, Kept, Lens, Tables, get, sort_of, Name, Rows, IsOf, AreDeltas, LeadTo}
use Rattle.lens_laws.specs.Edits.{AreDiffs}
use Rattle.io_specs.specs.Faults.{Rose}
use Rattle.io_specs.specs.Lines.{lines}
use Rattle.server_specs.specs.Answer.{changed, exported, memory, shown, text}
use Rattle.server_specs.specs.Answering.{answer}
use Rattle.server_specs.specs.Batching as batching
use Rattle.server_specs.specs.Batching.{KnownEdit}
use Rattle.server_specs.specs.Changing.{is_stale}
use Rattle.server_specs.specs.Questions.{rows_with}
use Rattle.server_specs.specs.Request.{BatchEdit, import, request}
use Rattle.server_specs.specs.Sending.{value_in}
use Rattle.server_specs.specs.Session.{Exchange, last_state}
use Rattle.server_specs.specs.State.{State}
use Rattle.server_specs.specs.Validity.{Valid}
use Rattle.server_laws.specs.AnswerLaws.{IsQuestion}
use Rattle.server_laws.specs.Answers.{IsAccepted, IsRefusal}
use Rattle.server_laws.specs.BatchLaws.{AreKnown, AreLawful, IsBatchLine}
use Rattle.server_laws.specs.ChangeLaws.{SendsView}
use Rattle.server_laws.specs.FindLaws.{FindsIn}
use Rattle.server_laws.specs.SessionLaws.{answers}
use Rattle.server_laws.specs.SheetLaws.{IsExportLine}
use Rattle.server_laws.specs.UndoLaws.{AreIn, befores_after, move, taken_back}
use Rattle.server_laws.specs.UpdateLaws.{RestsOnExport, RestsOnRead}
use Rattle.lens_io.specs.Calls.{Call as Take}
use Rattle.lens_io.specs.declared.told.Offer.{Offer}
use Rattle.arguments.specs.Settings.{Settings}
use Rattle.table_keeper.specs.declared.calls.Call.{Call}
use Rattle.serving.specs.Running.{Runs}

-- ---- lines that send a new view

-- The line sends the new view N of the name, resting on a version, if on any, and the reply is that it is accepted.
pub record Accepts (s : State) (e : Exchange) (name : Name) (L : Lens) (on : Option ℕ) (N : Rows) : Type 0 where
  pub sends : SendsView s e.line name L on N
  pub accepted : IsAccepted (answer s e.line).0
  pub told : e.reply ≡ text (answer s e.line).0

-- The laws of lenses at an exchange, from this state and count on.
pub record IsLawful (s : State) (count : ℕ) (e : Exchange) : Type 0 where
  -- a new view that is not stale is accepted exactly where it is of the view's sort
  pub typed : (name : Name) (L : Lens) (on : Option ℕ) (N : Rows) → SendsView s e.line name L on N → is_stale s L on ≡ false → IsAccepted (answer s e.line).0 ↔ IsOf N (sort_of L)
  -- PutGet: what was accepted is what the view then shows
  pub put_get : (name : Name) (L : Lens) (on : Option ℕ) (N : Rows) → Accepts s e name L on N → get L e.state.tables ≡ N
  -- the reply tells the changes
  pub told : (name : Name) (L : Lens) (on : Option ℕ) (N : Rows) → Accepts s e name L on N → e.reply ≡ text (changed (changes L N s.tables) e.state.version)
  -- they are exactly the differences of the tables: by rising names, none of them empty, each that of its table, and they lead from the old tables to the new ones
  pub exact : (name : Name) (L : Lens) (on : Option ℕ) (N : Rows) → Accepts s e name L on N
      → AreDeltas (changes L N s.tables) × LeadTo (changes L N s.tables) s.tables e.state.tables × AreDiffs s.tables e.state.tables (changes L N s.tables)
  -- GetPut: where it is what the view showed, nothing changes, nor does the keeper's count
  pub get_put : (name : Name) (L : Lens) (on : Option ℕ) → Accepts s e name L on (get L s.tables) → (e.state ≡ s) × (e.count ≡ count)

-- ---- batches

-- The line sends these edits as a batch, resting on a version, if on any, and the reply is that they are accepted.
pub record AcceptsBatch (s : State) (e : Exchange) (edits : List BatchEdit) (on : Option ℕ) : Type 0 where
  pub sends : IsBatchLine e.line edits on
  pub accepted : IsAccepted (answer s e.line).0
  pub told : e.reply ≡ text (answer s e.line).0

-- how the tables differ after an exchange
abbrev pub differing : State → Exchange → List TableDelta
differing s e = differences (finmap.keys s.tables) s.tables e.state.tables

-- The laws of batches at an exchange, from this state and count on.
pub record IsLawfulBatch (s : State) (count : ℕ) (e : Exchange) : Type 0 where
  -- the edits are made one after another; each keeps PutGet and GetPut on the tables that those before it gave
  pub made : (edits : List BatchEdit) (on : Option ℕ) → AcceptsBatch s e edits on
      → (known : List KnownEdit) × AreKnown s edits known × AreLawful known s.tables × (e.state.tables ≡ batching.batch known s.tables)
  -- the reply tells exactly how the tables differ
  pub told : (edits : List BatchEdit) (on : Option ℕ) → AcceptsBatch s e edits on → e.reply ≡ text (changed (differing s e) e.state.version)
  pub exact : (edits : List BatchEdit) (on : Option ℕ) → AcceptsBatch s e edits on → AreDeltas (differing s e) × LeadTo (differing s e) s.tables e.state.tables
  -- where the edits leave the tables, nothing changes, nor does the keeper's count
  pub still : (edits : List BatchEdit) (on : Option ℕ) → AcceptsBatch s e edits on → e.state.tables ≡ s.tables → (e.state ≡ s) × (e.count ≡ count)

-- ---- finds, and what changes nothing

-- An answered line that finds by a value in a column of a view shows those rows of the view that have the value, and changes nothing.
abbrev pub FindsFilter : State → ℕ → Exchange → Type 0
FindsFilter s count e = (name column : Name) (json : Data) (L : Lens) → FindsIn s e.line name column json L
    → (kind : Kind) → finmap.get (sort_of L).columns column ≡ Some kind → (value : Value) → value_in kind json ≡ Some value → e.reply ≡ text (answer s e.line).0
    → (e.reply ≡ text (shown (rows_with column value (get L s.tables)) s.version)) × (e.state ≡ s) × (e.count ≡ count)

-- A line that is refused, or that only asks, changes nothing, nor does the keeper's count.
abbrev pub RefusesAlone : State → ℕ → Exchange → Type 0
RefusesAlone s count e = IsRefusal (answer s e.line).0 ⊎ IsQuestion (request e.line) → (e.state ≡ s) × (e.count ≡ count)

-- ---- a session

-- it holds of each exchange, from the state and the count that the one before left
abbrev pub EachFrom : (State → ℕ → Exchange → Type 0) → State → ℕ → List Exchange → Type 0
EachFrom P s count [] = Unit {0}
EachFrom P s count (e ∷ exchanges) = P s count e × EachFrom P e.state e.count exchanges

-- If a change is based on a version at which the view was read, and the server accepts the change, the view has the rows that were read just before the change.
abbrev pub UpdatesFindReads : State → List Exchange → Type 0
UpdatesFindReads first exchanges = (before between after : List Exchange) (e f : Exchange) → exchanges ≡ before ++ e ∷ (between ++ f ∷ after)
    → (name : Name) (rows : Rows) (version : ℕ) → RestsOnRead first before e between f name rows version
    → (answer (last_state e.state between) e.line).0 ≡ shown rows (last_state e.state between).version

-- If a change is based on a version at which the view was exported, and the server accepts the change, an export just before the change would have given the text of that export.
abbrev pub UpdatesFindExports : State → List Exchange → Type 0
UpdatesFindExports first exchanges = (before between after : List Exchange) (e f : Exchange) → exchanges ≡ before ++ e ∷ (between ++ f ∷ after)
    → (name : Name) (csv : List ℕ) (version : ℕ) → RestsOnExport first before e between f name csv version
    → (answer (last_state e.state between) e.line).0 ≡ exported csv (last_state e.state between).version

-- An undo that changes something makes every table that was there just before the last change that is not taken back what it was then.
abbrev pub UndosRestore : State → List Exchange → Type 0
UndosRestore first exchanges = (before after : List Exchange) (e : Exchange) → exchanges ≡ before ++ e ∷ after → move (last_state first before) e ≡ taken_back
    → (db : Tables) × (older : List Tables) × (befores_after first before [] ≡ db ∷ older) × AreIn db e.state.tables

-- After some exchanges, e exports the view of the lens, and the reply is this text at this version; and after some more, f imports the
-- text, when no table of the view was changed after that version, and the version that it rests on, if on any, is not stale.
pub record ImportsExported (first : State) (before : List Exchange) (e : Exchange) (between : List Exchange) (f : Exchange) (name : Name) (L : Lens) (csv : List ℕ) (version : ℕ) (on : Option ℕ) : Type 0 where
  pub line : IsExportLine (last_state first before) e.line name L
  pub answered : (answer (last_state first before) e.line).0 ≡ exported csv version
  pub told : e.reply ≡ text (answer (last_state first before) e.line).0
  pub asked : request f.line ≡ Ok (import name csv on)
  pub unmoved : is_stale (last_state e.state between) L (Some version) ≡ false
  pub fresh : is_stale (last_state e.state between) L on ≡ false

-- Such an import is accepted, and changes nothing.
abbrev pub ExportsComeBack : State → List Exchange → Type 0
ExportsComeBack first exchanges = (before between after : List Exchange) (e f : Exchange) → exchanges ≡ before ++ e ∷ (between ++ f ∷ after)
    → (name : Name) (L : Lens) (csv : List ℕ) (version : ℕ) (on : Option ℕ) → ImportsExported first before e between f name L csv version on
    → answer (last_state e.state between) f.line ≡ (changed [] (last_state e.state between).version, last_state e.state between)

-- The first state and that after each line are valid, and each line is lawful; finds are filters, no update is lost, and what is refused changes nothing.
pub record IsLawfulSession (first : State) (start : ℕ) (exchanges : List Exchange) : Type 0 where
  pub opened : Valid first
  pub valid : AllByRecursion (λ e. Valid e.state) exchanges
  pub lawful : EachFrom IsLawful first start exchanges
  pub batches : EachFrom IsLawfulBatch first start exchanges
  pub finds : EachFrom FindsFilter first start exchanges
  pub refusals : EachFrom RefusesAlone first start exchanges
  pub updates : UpdatesFindReads first exchanges
  pub updates_of_exports : UpdatesFindExports first exchanges
  pub undos : UndosRestore first exchanges
  pub exports : ExportsComeBack first exchanges

-- ---- a run

-- In every run that serves lines its session is lawful; where neither the keeper's count rises nor the sink fails, and no reply says
-- that memory ran out, what was given is exactly the answers to the lines, in order; and at the end of an input that is told, these
-- are all its lines.
abbrev pub RunsAreLawful : Type 0
RunsAreLawful = (s : Settings) (stays : Bool) (status : ℕ) (left left' given given' : Option (List ℕ)) (asked asked' : Option (List Take)) (offered offered' : Option (List Offer)) (count count' : ℕ) (contents contents' : Option Kept) (calls calls' : Option (List Call)) (walked walked' : ℕ)
    → (run : Runs s stays status left left' given given' asked asked' offered offered' count count' contents contents' calls calls' walked walked')
    → IsLawfulSession run.first run.start run.serves.session.exchanges
    × ((Rose count count' → ⊥) → status ≢ 5 → AllByRecursion (λ reply. reply ≢ text memory) run.serves.replies → Appends given given' (flat_map text (answers run.first run.serves.taken)))
    × (status ≡ 0 → IfSome left (λ bytes. run.serves.taken ≡ lines bytes))
