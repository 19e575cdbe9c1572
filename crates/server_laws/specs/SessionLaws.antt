-- The laws of sessions: which replies lines get, and how often the keeper's failure is told.
use Rattle.std.specs.Prelude.{◌≡◌, ◌≢◌, ◌≤◌, ◌<◌, ◌+◌, ◌-◌, ◌^◌, ◌⊎◌, ℕ, Bool, nat_eq, List, [], ◌∷◌, map, count_by}
use Rattle.std.specs.Cmp.Lexicographic.{pointwise}
use Rattle.std.specs.List.{AllByRecursion}
use Rattle.io_specs.specs.Faults.{Rose}
use Rattle.io_specs.specs.Lines.{Line}
use Rattle.server_specs.specs.State.{State}
use Rattle.server_specs.specs.Answer.{Answer, memory, store_fault, text}
use Rattle.server_specs.specs.Answering.{answer}
use Rattle.server_specs.specs.Session.{Exchange, IsShort, Session}

-- the answers to these lines, one after another
abbrev pub answers : State → List Line → List Answer
answers s [] = []
answers s (l ∷ lines) = (answer s l).0 ∷ answers (answer s l).1 lines

-- the state after these lines
abbrev pub state_after : State → List Line → State
state_after s [] = s
state_after s (l ∷ lines) = state_after (answer s l).1 lines

-- Each line is answered; or it is not too long, its reply says that memory ran out, and it leaves the state.
abbrev pub AreAnswered : State → List Line → List (List ℕ) → State → Type 0
AreAnswered s [] [] last = last ≡ s
AreAnswered s [] (reply ∷ replies) last = ⊥
AreAnswered s (l ∷ lines) [] last = ⊥
AreAnswered s (l ∷ lines) (reply ∷ replies) last =
    ((reply ≡ text (answer s l).0) × AreAnswered (answer s l).1 lines replies last)
    ⊎ (IsShort l × (reply ≡ text memory) × AreAnswered s lines replies last)

-- Where the keeper's count did not rise, each reply is the text of the answer to its line, or says that memory ran out.
abbrev pub RepliesAreAnswers : Type 0
RepliesAreAnswers = (s : State) (count : ℕ) (lines : List Line) (replies : List (List ℕ)) (last : State) (count' : ℕ)
    → Session s count lines replies last count' → (Rose count count' → ⊥) → AreAnswered s lines replies last

-- Where besides no reply says that memory ran out, the replies are the texts of the answers, and the last state is theirs.
abbrev pub SessionsAreComplete : Type 0
SessionsAreComplete = (s : State) (count : ℕ) (lines : List Line) (replies : List (List ℕ)) (last : State) (count' : ℕ)
    → Session s count lines replies last count' → (Rose count count' → ⊥) → AllByRecursion (λ reply. reply ≢ text memory) replies
    → (replies ≡ map text (answers s lines)) × (last ≡ state_after s lines)

-- whether the reply says that the keeper failed
abbrev pub is_fault : List ℕ → Bool
is_fault = pointwise nat_eq (text store_fault)

-- The keeper's failure is told at most as often as its count rose, unless the count is at its greatest in the end.
abbrev pub FaultsAreCounted : Type 0
FaultsAreCounted = (s : State) (count : ℕ) (lines : List Line) (replies : List (List ℕ)) (last : State) (count' : ℕ)
    → Session s count lines replies last count' → count' < 2 ^ 64 - 1 → count + count_by is_fault replies ≤ count'

-- The answer to a line never reads as that memory ran out, nor as that the keeper failed.
abbrev pub AnswersReadOtherwise : Type 0
AnswersReadOtherwise = (s : State) (l : Line) → (text (answer s l).0 ≢ text memory) × (text (answer s l).0 ≢ text store_fault)

-- the answer to each line leaves the state before it
abbrev pub AllLeave : State → List Exchange → Type 0
AllLeave s [] = Unit {0}
AllLeave s (e ∷ exchanges) = ((answer s e.line).1 ≡ s) × AllLeave e.state exchanges

-- Where no answer changes the state, as where all lines are questions or refused, the keeper's count is as it was.
abbrev pub CountsStay : Type 0
CountsStay = (s : State) (count : ℕ) (lines : List Line) (replies : List (List ℕ)) (last : State) (count' : ℕ)
    → (session : Session s count lines replies last count') → AllLeave s session.exchanges → count' ≡ count
