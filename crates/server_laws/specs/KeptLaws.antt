-- What a keeper keeps follows the states.
use Rattle.std.specs.Prelude.{◌≡◌, List, ℕ, Option, Some, None, Ok}
use Rattle.std.specs.FinMap as finmap
use Rattle.lens_specs.specs.Common.{Name, Rows, violating_row, violating_pair, Lens, sort_of, changes, Change, rows, changed, CanChange}
use Rattle.grammar_specs.specs.Meaning.{Definition, table, view}
use Rattle.io_specs.specs.Lines.{Line}
use Rattle.grammar_laws.specs.Reading.{reading}
use Rattle.lens_specs.specs.Keeping.{define}
use Rattle.catalog_specs.specs.Catalogue.{catalogue}
use Rattle.catalog_specs.specs.Judging.{judged}
use Rattle.server_specs.specs.State.{State, kept}
use Rattle.server_specs.specs.Request.{request}
use Rattle.server_specs.specs.Defining.{with_defined}
use Rattle.server_specs.specs.Answering.{answer}
use Rattle.server_specs.specs.Validity.{Valid}
use Rattle.server_laws.specs.Answers.{IsChange}
use Rattle.server_laws.specs.AnswerLaws.{IsQuestion}
use Rattle.server_laws.specs.PutLaws.{put_set}

-- what is kept after is what was kept, after a change that can be made
abbrev pub KeptFollows : Change → State → State → Type 0
KeptFollows change before after = (kept after ≡ changed change (kept before)) × CanChange change (kept before)

-- the table that a definition makes
abbrev pub table_made : Definition → Option Name
table_made (table name columns deps predicate) = Some name
table_made (view name expr) = None

-- a put that is not refused changes what is kept by its changes
abbrev pub PutsAreKept : Type 0
PutsAreKept = (s : State) → Valid s → (name : Name) (L : Lens) → finmap.get (catalogue s.texts) name ≡ Some L
    → (N : Rows) → violating_row (sort_of L).predicate N ≡ None → violating_pair (sort_of L).tree N ≡ None → KeptFollows (rows (changes L N s.tables)) s (put_set N L s).1

-- a definition that is taken is kept, with its table
abbrev pub DefinitionsAreKept : Type 0
DefinitionsAreKept = (s : State) → Valid s → (text : List ℕ) (definition : Definition) → judged (catalogue s.texts) (reading text) ≡ Ok definition
    → KeptFollows (define text (table_made definition)) s (with_defined text definition s)

-- each answer that changes something, and does not only foretell it, is kept by one change that can be made
abbrev pub ChangesAreKept : Type 0
ChangesAreKept = (s : State) → Valid s → (l : Line) → (IsQuestion (request l) → ⊥) → IsChange (answer s l).0 → (change : Change) × KeptFollows change s (answer s l).1
