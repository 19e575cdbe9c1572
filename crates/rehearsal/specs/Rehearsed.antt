-- What becomes of a rehearsal.
use Rattle.std.specs.Prelude.{◌≡◌, ◌≢◌, ◌≤◌, ◌+◌, ℕ, List, [], ◌∷◌, ◌++◌, Option}
use Rattle.std.specs.List.{AllByRecursion}
use Rattle.io_specs.specs.Calls.{Adds}
use Rattle.io_specs.specs.Lines.{Line}
use Rattle.server_specs.specs.State.{State}
use Rattle.server_specs.specs.Answer.{memory, text}
use Rattle.server_specs.specs.Session.{Session}
use Rattle.table_keeper.specs.declared.calls.Call.{Call}
use Rattle.lens_server.specs.Committing.{CommitsForAll}
use Rattle.rehearsal.specs.Summary.{summary}
use Rattle.rehearsal.specs.Walking.{most_walked_in}

-- The lines were answered one after another, none for want of memory, and the text is the summary of the replies.
-- The keeper was asked for their commits alone, and no more rows were walked than the lines may walk.
pub record Rehearsed (first : State) (count : ℕ) (lines : List Line) (told : List ℕ) (last : State) (count' : ℕ) (calls calls' : Option (List Call)) (walked walked' : ℕ) : Type 0 where
  pub replies : List (List ℕ)
  pub session : Session first count lines replies last count'
  pub found_memory : AllByRecursion (λ reply. reply ≢ text memory) replies
  pub told_is : told ≡ summary replies last.version
  pub commits : Adds (CommitsForAll first count session.exchanges) calls calls'
  pub few : walked' ≤ walked + most_walked_in first session.exchanges

-- a reply that says that memory ran out is the last
abbrev pub EndsAtMemory : List (List ℕ) → Type 0
EndsAtMemory [] = Unit {0}
EndsAtMemory (reply ∷ replies) = (replies ≢ [] → reply ≢ text memory) × EndsAtMemory replies

-- The first of the lines were answered one after another, until memory ran out: at a reply that says so, which was the last, or elsewhere. The keeper was asked for their commits alone, and no
-- more rows were walked than they may walk.
pub record Stopped (first : State) (count : ℕ) (lines : List Line) (last : State) (count' : ℕ) (calls calls' : Option (List Call)) (walked walked' : ℕ) : Type 0 where
  pub taken : List Line
  pub rest : List Line
  pub front : taken ++ rest ≡ lines
  pub replies : List (List ℕ)
  pub session : Session first count taken replies last count'
  pub ends : EndsAtMemory replies
  pub commits : Adds (CommitsForAll first count session.exchanges) calls calls'
  pub few : walked' ≤ walked + most_walked_in first session.exchanges
