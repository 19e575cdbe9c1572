-- The laws of undo.
use Rattle.std.specs.Prelude.{◌≡◌, ◌↔◌, ◌++◌, ℕ, true, nat_eq, List, [], ◌∷◌, drop, is_some, Result, Ok, if◌then◌else◌}
use Rattle.std.specs.FinMap as finmap
use Rattle.lens_specs.specs.Common.{Name, Tables}
use Rattle.io_specs.specs.Lines.{Line}
use Rattle.server_specs.specs.State.{State}
use Rattle.server_specs.specs.Answer.{Answer, nothing_to_undo}
use Rattle.server_specs.specs.Request.{Request, put, edit, batch, undo, import, request}
use Rattle.server_specs.specs.Answering.{answer}
use Rattle.server_specs.specs.Session.{Exchange, Session, last_state}
use Rattle.server_specs.specs.Validity.{Valid}
use Rattle.server_laws.specs.Answers.{IsChange}

-- an undo is refused exactly where no change can be undone, and that changes nothing
abbrev pub NothingIsTold : Type 0
NothingIsTold = (s : State) (l : Line) → request l ≡ Ok undo → (answer s l ≡ (nothing_to_undo, s)) ↔ (s.past ≡ [])

-- ---- what each request does to the changes that can be undone

-- they stay; one more is made; or the last one is taken back
pub data Move : Type 0 where
  stays : Move
  made : Move
  taken_back : Move

-- what a request that raises the version does to them
abbrev pub move_of : Result Request Answer → Move
move_of (Ok (put name rows on)) = made
move_of (Ok (edit name remove add on)) = made
move_of (Ok (import name csv on)) = made
move_of (Ok (batch edits on)) = made
move_of (Ok undo) = taken_back
move_of other = stays

-- a change of the tables and then an undo leave them as they were
abbrev pub UndoneAtOnce : Type 0
UndoneAtOnce = (s : State) → Valid s → (l m : Line) → move_of (request l) ≡ made → IsChange (answer s l).0 → request m ≡ Ok undo
    → (answer (answer s l).1 m).1.tables ≡ s.tables

-- ---- over a session

-- what becomes of them from one state to the next: nothing, where the version does not rise
abbrev pub move_to : State → State → Move → Move
move_to s t m = if nat_eq s.version t.version then stays else m

-- what an exchange does to them, from a state on
abbrev pub move : State → Exchange → Move
move s e = move_to s e.state (move_of (request e.line))

-- the tables before each change that was made and is not taken back, the last first, after a move from these tables
abbrev pub moved : Move → Tables → List Tables → List Tables
moved stays db befores = befores
moved made db befores = db ∷ befores
moved taken_back db befores = drop 1 befores

-- and after some exchanges
abbrev pub befores_after : State → List Exchange → List Tables → List Tables
befores_after s [] befores = befores
befores_after s (e ∷ exchanges) befores = befores_after e.state exchanges (moved (move s e) s.tables befores)

-- every table of the first is in the second as it is there
abbrev pub AreIn : Tables → Tables → Type 0
AreIn before after = (table : Name) → is_some (finmap.get before table) ≡ true → finmap.get after table ≡ finmap.get before table

-- In each session from a valid state in which no change can be undone, an undo that raises the version undoes the last change that
-- was made and is not taken back: every table that was there just before that change is again what it was then.
abbrev pub UndoRestores : Type 0
UndoRestores = (s : State) (count : ℕ) (lines : List Line) (replies : List (List ℕ)) (last : State) (count' : ℕ) → Valid s → s.past ≡ []
    → (session : Session s count lines replies last count') → (before after : List Exchange) (e : Exchange)
    → session.exchanges ≡ before ++ e ∷ after → move (last_state s before) e ≡ taken_back
    → (db : Tables) × (older : List Tables) × (befores_after s before [] ≡ db ∷ older) × AreIn db e.state.tables
