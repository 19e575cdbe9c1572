-- The laws of states: each one that the server reaches is valid.
use Rattle.std.specs.Prelude.{◌≡◌, ◌<◌, ◌^◌, ℕ, List, Some, Ok, length}
use Rattle.std.specs.List.{AllByRecursion}
use Rattle.std.specs.FinMap as finmap
use Rattle.lens_specs.specs.Common.{Name, Rows, IsOf, Tables, Lens, sort_of, get, put, sort}
use Rattle.io_specs.specs.Lines.{Line}
use Rattle.lens_laws.specs.Asked.{HasKeys}
use Rattle.lens_laws.specs.Lenses.{IsTyped, AreOf}
use Rattle.catalog_specs.specs.Catalogue.{catalogue}
use Rattle.server_specs.specs.State.{State, fresh}
use Rattle.server_specs.specs.Answering.{answer}
use Rattle.server_specs.specs.Session.{Session}
use Rattle.server_specs.specs.Validity.{Valid}

-- the first state is valid
abbrev pub FreshIsValid : Type 0
FreshIsValid = Valid fresh

-- an answer leaves a valid state valid
abbrev pub AnswersStayValid : Type 0
AnswersStayValid = (s : State) (l : Line) → Valid s → Valid (answer s l).1

-- every state of a session from a valid one is valid, and so is the last one
abbrev pub SessionsStayValid : Type 0
SessionsStayValid = (s : State) (count : ℕ) (lines : List Line) (replies : List (List ℕ)) (last : State) (count' : ℕ) → Valid s
    → (session : Session s count lines replies last count') → AllByRecursion (λ e. Valid e.state) session.exchanges × Valid last

-- each lens of a valid state has a sort, passes every test of the rules, and has its tables there, each of its sort
abbrev pub LensesAreTyped : Type 0
LensesAreTyped = (s : State) → Valid s → (name : Name) (L : Lens) → finmap.get (catalogue s.texts) name ≡ Some L
    → (sort L ≡ Ok (sort_of L)) × IsTyped L × AreOf L s.tables

-- each text has fewer than 2 ^ 64 bytes
abbrev pub AreShort : List (List ℕ) → Type 0
AreShort texts = AllByRecursion (λ text. length text < 2 ^ 64) texts

-- each lens of a valid state has keys: its tables have columns, and their dependencies both sides
abbrev pub LensesHaveKeys : Type 0
LensesHaveKeys = (s : State) → Valid s → AreShort s.texts → (name : Name) (L : Lens) → finmap.get (catalogue s.texts) name ≡ Some L → HasKeys L

-- preservation of sorts, PutGet and GetPut, over tables
pub record IsLawfulOver (L : Lens) (db : Tables) : Type 0 where
  pub shows : IsOf (get L db) (sort_of L)
  pub stays : (N : Rows) → IsOf N (sort_of L) → AreOf L (put L N db)
  pub put_get : (N : Rows) → IsOf N (sort_of L) → get L (put L N db) ≡ N
  pub get_put : put L (get L db) db ≡ db

-- each lens of a valid state is lawful over its tables
abbrev pub LensesAreLawful : Type 0
LensesAreLawful = (s : State) → Valid s → (name : Name) (L : Lens) → finmap.get (catalogue s.texts) name ≡ Some L → IsLawfulOver L s.tables
