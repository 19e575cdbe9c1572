-- What an answer asks of the keeper.
use Rattle.std.specs.Prelude.{◌≡◌, ◌≢◌, ◌↔◌, ◌⊎◌, ℕ, List, [], ◌∷◌, Option, None, Some}
use Rattle.server_specs.specs.Answer.{Answer, memory, store_fault, text}
use Rattle.server_specs.specs.State.{State}
use Rattle.table_keeper.specs.declared.calls.Asked.TheVariants.{Commit}
use Rattle.table_keeper.specs.declared.calls.Call.{Call}
use Rattle.table_keeper.specs.declared.keeper.KeepFault.{KeepFault}
use Rattle.table_keeper.specs.declared.keeper.KeepFault.TheVariants as keep

-- The reply to an answer whose change was committed, by how the commit ended: the answer's text, or that of a store that failed, or
-- that of memory.
abbrev pub IsReply : Option KeepFault → Answer → List ℕ → Type 0
IsReply None answer reply = reply ≡ text answer
IsReply (Some keep.Failed) answer reply = reply ≡ text store_fault
IsReply (Some keep.NoMemory) answer reply = reply ≡ text memory

-- What is asked for an answer. Where it leaves the state, nothing, and the count of faults is as it was; where it changes the state,
-- one commit, which was done exactly where the new state is the answer's, and whose end the reply tells. Only where memory ran out may a
-- change have no commit.
abbrev pub Commits : Answer × State → State → State → ℕ → ℕ → List ℕ → List Call → Type 0
Commits a old new count count' reply [] = (count' ≡ count) × ((a.1 ≡ old) ⊎ (reply ≡ text memory))
Commits a old new count count' reply (call ∷ []) =
    (a.1 ≢ old) × (call.asked ≡ Commit) × (call.faults ≡ count') × ((call.fault ≡ None) ↔ (new ≡ a.1)) × IsReply call.fault a.0 reply
Commits a old new count count' reply (call ∷ next ∷ calls) = ⊥
