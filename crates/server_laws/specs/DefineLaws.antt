-- The laws of definitions: which are taken, what a new name shows, and that what was there stays.
use Rattle.std.specs.Prelude.{◌≡◌, ◌↔◌, ◌+◌, ℕ, true, List, Some, is_some, Result, Ok, Err}
use Rattle.std.specs.FinMap as finmap
use Rattle.plain_values.specs.SortedSet as set
use Rattle.lens_specs.specs.Common.{Columns, Edge, Lens, get, Predicate, Name}
use Rattle.io_specs.specs.Lines.{Line}
use Rattle.grammar_specs.specs.Meaning.{Definition, table, view, Expr}
use Rattle.grammar_specs.specs.Faults.{Fault}
use Rattle.grammar_laws.specs.Reading.{reading}
use Rattle.catalog_specs.specs.Catalogue.{catalogue, lens_of}
use Rattle.catalog_specs.specs.Judging.{CatalogFault, judged}
use Rattle.server_specs.specs.State.{State}
use Rattle.server_specs.specs.Answer.{defined, shown, name_taken}
use Rattle.server_specs.specs.Request.{define, read, request}
use Rattle.server_specs.specs.Defining.{text_answer, fault_answer, with_defined}
use Rattle.server_specs.specs.Changing.{changed_at}
use Rattle.server_specs.specs.Answering.{answer}
use Rattle.server_specs.specs.Validity.{Valid}

-- the judgement of a text after the definitions of a state
abbrev pub judgement : State → List ℕ → Result Definition CatalogFault
judgement s text = judged (catalogue s.texts) (reading text)

-- the name that is defined
abbrev pub defined_name : Definition → Name
defined_name (table name columns deps predicate) = name
defined_name (view name expr) = name

-- what is taken is what the text says
abbrev pub TakenIsRead : Type 0
TakenIsRead = (s : State) (text : List ℕ) (definition : Definition) → judgement s text ≡ Ok definition → reading text ≡ Ok definition

-- a definition is taken exactly where it is judged so
abbrev pub TakenWhereJudged : Type 0
TakenWhereJudged = (s : State) (l : Line) (text : List ℕ) → request l ≡ Ok (define text) → ((answer s l).0 ≡ defined (s.version + 1)) ↔ ((definition : Definition) × (judgement s text ≡ Ok definition))

-- a definition that is taken is added after the others, with its table, and the version rises by one
abbrev pub TakenIsAdded : Type 0
TakenIsAdded = (s : State) (l : Line) (text : List ℕ) (definition : Definition) → request l ≡ Ok (define text) → judgement s text ≡ Ok definition
    → answer s l ≡ (defined (s.version + 1), with_defined text definition s)

-- a definition that is refused leaves the state, and the answer says why
abbrev pub RefusedStays : Type 0
RefusedStays = (s : State) (l : Line) (text : List ℕ) (fault : CatalogFault) → request l ≡ Ok (define text) → judgement s text ≡ Err fault → answer s l ≡ (fault_answer fault, s)

-- a text that says no definition is refused for its fault
abbrev pub FaultsAreTold : Type 0
FaultsAreTold = (s : State) (l : Line) (text : List ℕ) (fault : Fault) → request l ≡ Ok (define text) → reading text ≡ Err fault → answer s l ≡ (text_answer fault, s)

-- a new table shows no rows, at the version after
abbrev pub NewTablesAreEmpty : Type 0
NewTablesAreEmpty = (s : State) (l m : Line) (text : List ℕ) (name : Name) (columns : Columns) (deps : List Edge) (predicate : Predicate) → request l ≡ Ok (define text)
    → judgement s text ≡ Ok (table name columns deps predicate) → request m ≡ Ok (read name)
    → answer (answer s l).1 m ≡ (shown set.empty (s.version + 1), (answer s l).1)

-- A new view shows what the lens of its expression gets from the tables, at the version after. The names in the expression may be
-- those of views.
abbrev pub NewViewsShow : Type 0
NewViewsShow = (s : State) (l m : Line) (text : List ℕ) (name : Name) (expr : Expr) → request l ≡ Ok (define text) → judgement s text ≡ Ok (view name expr) → request m ≡ Ok (read name)
    → (lens : Lens) × (lens_of expr (catalogue s.texts) ≡ Some lens) × (answer (answer s l).1 m ≡ (shown (get lens s.tables) (s.version + 1), (answer s l).1))

-- no name is taken twice: a definition of a name that has a lens is refused for it
abbrev pub NamesAreTakenOnce : Type 0
NamesAreTakenOnce = (s : State) (l : Line) (text : List ℕ) (definition : Definition) (L : Lens) → request l ≡ Ok (define text) → reading text ≡ Ok definition
    → finmap.get (catalogue s.texts) (defined_name definition) ≡ Some L → answer s l ≡ (name_taken (defined_name definition), s)

-- no answer changes the lens of a name
abbrev pub LensesStay : Type 0
LensesStay = (s : State) (l : Line) (name : Name) (L : Lens) → finmap.get (catalogue s.texts) name ≡ Some L → finmap.get (catalogue (answer s l).1.texts) name ≡ Some L

-- a definition, taken or refused, leaves each table that was there
abbrev pub DefinitionsLeaveTables : Type 0
DefinitionsLeaveTables = (s : State) → Valid s → (l : Line) (text : List ℕ) → request l ≡ Ok (define text)
    → (table : Name) → is_some (finmap.get s.tables table) ≡ true → finmap.get (answer s l).1.tables table ≡ finmap.get s.tables table

-- and what each view shows, with its last change
abbrev pub DefinitionsLeaveViews : Type 0
DefinitionsLeaveViews = (s : State) → Valid s → (l : Line) (text : List ℕ) → request l ≡ Ok (define text)
    → (name : Name) (L : Lens) → finmap.get (catalogue s.texts) name ≡ Some L
    → (get L (answer s l).1.tables ≡ get L s.tables) × (changed_at (answer s l).1 L ≡ changed_at s L)
