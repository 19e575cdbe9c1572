-- The stages of a rehearsal.
use Rattle.std.specs.Prelude.{◌≡◌, ◌≢◌, ◌≤◌, ◌<◌, ◌+◌, ◌-◌, ◌^◌, ℕ, List, ◌∷◌, [], ◌++◌, count_by, Option}
use Rattle.std.specs.List.{AllByRecursion}
use Rattle.lens_specs.specs.Keeping.{Kept, Follows}
use Rattle.io_specs.specs.Calls.{Adds}
use Rattle.io_specs.specs.Lines.{Line}
use Rattle.server_specs.specs.State.{State, kept}
use Rattle.server_specs.specs.Answer.{memory, text}
use Rattle.server_specs.specs.Session.{Session}
use Rattle.table_keeper.specs.declared.calls.Call.{Call}
use Rattle.lens_server.specs.Committing.{CommitsForAll}
use Rattle.rehearsal.specs.Rehearsed.{EndsAtMemory}
use Rattle.rehearsal.specs.Summary.{is_ok, is_refusal, counts_data, rows_data, rows_shown}
use Rattle.rehearsal.specs.Walking.{most_looked_in, most_walked_in}
use Rattle.rehearsal.specs.declared.tally.Tally.{Tally}
use Rattle.rehearsal.specs.declared.tally.Shown.{Shown}

-- How far a rehearsal has come: the state, the keeper's count of faults, its contents and its calls, where it tells them, the tally,
-- how many rows were walked, and how many were looked at by key.
pub record Point : Type 0 where
  pub state : State
  pub faults : ℕ
  pub contents : Option Kept
  pub calls : Option (List Call)
  pub tally : Tally
  pub walked : ℕ
  pub looked : ℕ

-- how far it has come
abbrev pub at : State → ℕ → Option Kept → Option (List Call) → Tally → ℕ → ℕ → Point
at state faults contents calls tally walked looked = record { state = state; faults = faults; contents = contents; calls = calls; tally = tally; walked = walked; looked = looked }

-- the tally after these replies
abbrev pub counted : Tally → List (List ℕ) → Tally
counted tally replies = record { accepted = tally.accepted + count_by is_ok replies; refused = tally.refused + count_by is_refusal replies }

-- The lines were answered one after another by these replies, none for want of memory. The replies were counted, and the keeper has what the state has.
-- The keeper was asked for their commits alone, and no more rows were walked, and looked at by key, than the lines may walk and look at.
pub record Passed (from : Point) (lines : List Line) (replies : List (List ℕ)) (to : Point) : Type 0 where
  pub session : Session from.state from.faults lines replies to.state to.faults
  pub found_memory : AllByRecursion (λ reply. reply ≢ text memory) replies
  pub counted_are : to.tally ≡ counted from.tally replies
  pub stored : Follows (λ _ now. now ≡ kept to.state) from.contents to.contents
  pub commits : Adds (CommitsForAll from.state from.faults session.exchanges) from.calls to.calls
  pub few : to.walked ≤ from.walked + most_walked_in from.state session.exchanges
  pub few_looked : to.looked ≤ from.looked + most_looked_in from.state session.exchanges

-- The lines were answered.
abbrev pub Passes : Point → List Line → Point → Type 0
Passes from lines to = (replies : List (List ℕ)) × Passed from lines replies to

-- The line was answered, and the reply shows so many rows.
abbrev pub Answers : Point → Line → ℕ → Point → Type 0
Answers from l rows to = (reply : List ℕ) × Passed from (l ∷ []) (reply ∷ []) to × (rows ≡ rows_shown reply)

-- The lines were answered, and the replies show these rows of albums, of tracks and of stock.
abbrev pub Shows : Point → List Line → Shown → Point → Type 0
Shows from lines shown to = (replies : List (List ℕ)) × Passed from lines replies to × (counts_data replies ≡ rows_data shown.albums shown.tracks shown.stock)

-- The first of the lines were answered one after another, until memory ran out: at a reply that says so, which was the last, or elsewhere. The keeper has what the state has.
-- The keeper was asked for their commits alone, and no more rows were walked, and looked at by key, than they may walk and look at.
pub record Halted (from : Point) (lines : List Line) (to : Point) : Type 0 where
  pub taken : List Line
  pub rest : List Line
  pub front : taken ++ rest ≡ lines
  pub replies : List (List ℕ)
  pub session : Session from.state from.faults taken replies to.state to.faults
  pub ends : EndsAtMemory replies
  pub stored : Follows (λ _ now. now ≡ kept to.state) from.contents to.contents
  pub commits : Adds (CommitsForAll from.state from.faults session.exchanges) from.calls to.calls
  pub few : to.walked ≤ from.walked + most_walked_in from.state session.exchanges
  pub few_looked : to.looked ≤ from.looked + most_looked_in from.state session.exchanges

-- The version and the counts can rise at so many lines more.
pub record HasRoom (version : ℕ) (tally : Tally) (lines : ℕ) : Type 0 where
  pub version_fits : version + lines < 2 ^ 64 - 1
  pub accepted_fits : tally.accepted + lines < 2 ^ 64
  pub refused_fits : tally.refused + lines < 2 ^ 64
