-- From the outcome of a line to a step of the session.
use Rattle.std.proofs.Common.{◌≡◌, ◌≤◌, ◌<◌, ℕ, Bool, true, false, List, length, sym, subst, refl, inl, Option, MatchResult, Result, Ok, Err, nat_le, if◌then◌else◌}
use Rattle.plain_values.proofs.Common.{le-leb, lt-leb}
use Rattle.no_memory.specs.declared.NoMemory.{NoMemory}
use Rattle.server_specs.specs.Common.{Adds, line, too_long, marked, memory, text, answer, answer_request, request, Step, Replies, found_memory, out_of_memory, State}
use Rattle.io_specs.proofs.Calls.{Adds-none, Adds-weaker}
use Rattle.lens_specs.specs.Common.{Kept}
use Rattle.server_specs.specs.Session.{Becomes}
use Rattle.table_keeper.specs.declared.calls.Call.{Call}
use Rattle.lens_server.specs.Committing.{Commits, CommitsFor}
use Rattle.database.specs.Outcomes.{Outcome, reply_of}

becomes : (old new : State) (count count' : ℕ) (bytes reply : List ℕ) → Becomes (answer_request (request (line bytes)) old) old count reply new count' → Replies old count (line bytes) reply new count'
unfolding answer
becomes old new count count' bytes reply b = found_memory b

short : (b : Bool) (bytes : List ℕ) → b ≡ true → (if b then line bytes else too_long) ≡ line bytes
short true bytes e = refl
short false bytes e = cc

pub marked_short : (bytes : List ℕ) → length bytes ≤ 16777216 → line bytes ≡ marked bytes
marked_short bytes h = sym (short (nat_le (length bytes) 16777216) bytes (le-leb (length bytes) 16777216 h))

still_of : (old : State) (count count' : ℕ) (bytes : List ℕ) → ((answer_request (request (line bytes)) old).1 ≡ old → count' ≡ count) → (answer old (line bytes)).1 ≡ old → count' ≡ count
unfolding answer
still_of old count count' bytes h = h

-- the reply to a line, or that of memory, is a step
pub stepped : (before old new : State) (count count' : ℕ) (contents contents' : Option Kept) (calls calls' : Option (List Call)) (bytes reply : List ℕ) (result : Result (List ℕ) NoMemory) → length bytes ≤ 16777216
    → old ≡ before → Outcome (answer_request (request (line bytes)) old) old new count count' contents contents' calls calls' result → ((answer_request (request (line bytes)) old).1 ≡ old → count' ≡ count)
    → MatchResult result (λ r. reply ≡ r) (λ _. reply ≡ text memory) → Step before count (marked bytes) reply new count'
stepped before old new count count' contents contents' calls calls' bytes reply (Ok r) h is o still said =
    subst (λ s. Step s count (marked bytes) reply new count') is
    (subst (λ l. Step old count l reply new count') (marked_short bytes h)
    (record {
      later = o.later;
      still = still_of old count count' bytes still;
      replied = becomes old new count count' bytes reply (subst (λ x. Becomes (answer_request (request (line bytes)) old) old count x new count') (sym said) o.ok);
    }))
stepped before old new count count' contents contents' calls calls' bytes reply (Err e) h is o still said =
    subst (λ s. Step s count (marked bytes) reply new count') is
    (subst (λ l. Step old count l reply new count') (marked_short bytes h)
    (record { later = o.later; still = still_of old count count' bytes still; replied = out_of_memory tt said o.err }))

-- ---- what the keeper was asked

-- a line whose answer leaves the state asks for an answer that does
pub untouched_by : (before old : State) (bytes : List ℕ) → length bytes ≤ 16777216 → old ≡ before → (answer before (marked bytes)).1 ≡ before → (answer_request (request (line bytes)) old).1 ≡ old
unfolding answer
untouched_by before old bytes h is e =
    subst (λ s. (answer_request (request (line bytes)) s).1 ≡ s) (sym is) (subst (λ l. (answer before l).1 ≡ before) (sym (marked_short bytes h)) e)

replied : (result : Result (List ℕ) NoMemory) (reply : List ℕ) → MatchResult result (λ r. reply ≡ r) (λ _. reply ≡ text memory) → reply_of result ≡ reply
replied (Ok r) reply said = sym said
replied (Err e) reply said = sym said

commits_for : (old new : State) (count count' : ℕ) (bytes reply : List ℕ) (calls : List Call)
    → Commits (answer_request (request (line bytes)) old) old new count count' reply calls → CommitsFor old count (record { line = line bytes; reply = reply; state = new; count = count' }) calls
unfolding answer
commits_for old new count count' bytes reply calls h = h

-- what is asked for the answer to a line is asked for the line
pub committed_for : (before old new : State) (count count' : ℕ) (contents contents' : Option Kept) (calls calls' : Option (List Call)) (bytes reply : List ℕ) (result : Result (List ℕ) NoMemory) → length bytes ≤ 16777216
    → old ≡ before → Outcome (answer_request (request (line bytes)) old) old new count count' contents contents' calls calls' result → MatchResult result (λ r. reply ≡ r) (λ _. reply ≡ text memory)
    → Adds (CommitsFor before count (record { line = marked bytes; reply = reply; state = new; count = count' })) calls calls'
committed_for before old new count count' contents contents' calls calls' bytes reply result h is o said =
    subst (λ s. Adds (CommitsFor s count (record { line = marked bytes; reply = reply; state = new; count = count' })) calls calls') is
    (subst (λ l. Adds (CommitsFor old count (record { line = l; reply = reply; state = new; count = count' })) calls calls') (marked_short bytes h)
    (Adds-weaker (Commits (answer_request (request (line bytes)) old) old new count count' (reply_of result)) (CommitsFor old count (record { line = line bytes; reply = reply; state = new; count = count' }))
    calls calls' (λ more h. commits_for old new count count' bytes reply more (subst (λ r. Commits (answer_request (request (line bytes)) old) old new count count' r more) (replied result reply said) h)) o.commits))

-- nothing is asked for a line that is too long
pub long_commits : (s : State) (count : ℕ) (bytes reply : List ℕ) (calls : Option (List Call)) → 16777216 < length bytes
    → Adds (CommitsFor s count (record { line = marked bytes; reply = reply; state = s; count = count })) calls calls
unfolding answer request
long_commits s count bytes reply calls h = rw (lt-leb (length bytes) 16777216 h) (Adds-none _ calls (refl, inl refl))
