-- A session: what the server replies to lines, one after another.
use Rattle.std.specs.Prelude.{◌≡◌, ◌≢◌, ◌≤◌, ℕ, List, [], ◌∷◌, map}
use Rattle.io_specs.specs.Faults.{Rose}
use Rattle.io_specs.specs.Lines.{Line, line, too_long}
use Rattle.server_specs.specs.State.{State}
use Rattle.server_specs.specs.Answer.{Answer, memory, store_fault, text}
use Rattle.server_specs.specs.Answering.{answer}

-- the line is not too long
abbrev pub IsShort : Line → Type 0
IsShort (line bytes) = Unit {0}
IsShort too_long = ⊥

-- What becomes of an answer: its text is the reply, and its state the new one; or the keeper failed at the change, and nothing
-- changed.
pub data Becomes (a : Answer × State) (old : State) (count : ℕ) (reply : List ℕ) (new : State) (count' : ℕ) : Type 0 where
  answered : reply ≡ text a.0 → new ≡ a.1 → Becomes a old count reply new count'
  not_stored : reply ≡ text store_fault → new ≡ old → a.1 ≢ old → Rose count count' → Becomes a old count reply new count'

-- What one line may get: what becomes of its answer; or, where it is not too long, that memory ran out, and nothing changed.
pub data Replies (old : State) (count : ℕ) (l : Line) (reply : List ℕ) (new : State) (count' : ℕ) : Type 0 where
  found_memory : Becomes (answer old l) old count reply new count' → Replies old count l reply new count'
  out_of_memory : IsShort l → reply ≡ text memory → new ≡ old → Replies old count l reply new count'

-- One step of a session: a line is replied to, no count falls, and where the answer leaves the state, the count is as it was.
pub record Step (old : State) (count : ℕ) (l : Line) (reply : List ℕ) (new : State) (count' : ℕ) : Type 0 where
  pub later : count ≤ count'
  pub still : (answer old l).1 ≡ old → count' ≡ count
  pub replied : Replies old count l reply new count'

-- One line with its reply, and the state and the count after it.
pub record Exchange : Type 0 where
  pub line : Line
  pub reply : List ℕ
  pub state : State
  pub count : ℕ

-- each exchange is a step from the state and the count that the one before left
abbrev pub Chain : State → ℕ → List Exchange → Type 0
Chain s count [] = Unit {0}
Chain s count (e ∷ exchanges) = Step s count e.line e.reply e.state e.count × Chain e.state e.count exchanges

-- the state that the last exchange left
abbrev pub last_state : State → List Exchange → State
last_state s [] = s
last_state s (e ∷ exchanges) = last_state e.state exchanges

-- the count that the last exchange left
abbrev pub last_count : ℕ → List Exchange → ℕ
last_count count [] = count
last_count count (e ∷ exchanges) = last_count e.count exchanges

-- These are the replies to these lines, one after another, from a state and a count on to the last ones.
pub record Session (s : State) (count : ℕ) (lines : List Line) (replies : List (List ℕ)) (last : State) (count' : ℕ) : Type 0 where
  pub exchanges : List Exchange
  pub chain : Chain s count exchanges
  pub lines_are : map (λ e. e.line) exchanges ≡ lines
  pub replies_are : map (λ e. e.reply) exchanges ≡ replies
  pub last_is : last_state s exchanges ≡ last
  pub count_is : last_count count exchanges ≡ count'
