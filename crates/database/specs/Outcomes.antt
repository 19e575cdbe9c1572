-- What a request needs, and what becomes of its answer.
use Rattle.std.specs.Prelude.{◌≡◌, ◌≤◌, ℕ, List, Option, Result, Ok, Err, IfOk, OnErr}
use Rattle.no_memory.specs.declared.NoMemory.{NoMemory}
use Rattle.io_specs.specs.Calls.{Adds}
use Rattle.lens_specs.specs.Keeping.{Kept, Follows, IfObserved}
use Rattle.server_specs.specs.State.{State, kept}
use Rattle.server_specs.specs.Answer.{Answer, memory, store_fault, text}
use Rattle.server_specs.specs.Session.{Becomes}
use Rattle.server_specs.specs.Validity.{Valid}
use Rattle.table_keeper.specs.declared.calls.Call.{Call}
use Rattle.table_keeper.specs.declared.keeper.KeepFault.{KeepFault}
use Rattle.table_keeper.specs.declared.keeper.KeepFault.TheVariants as fault
use Rattle.database.specs.Committing.{Commits}
use Rattle.database.specs.Premises.{CanAnswer}
use Rattle.database.specs.States.{state_of}
use Rattle.database.specs.declared.database.Database.{Database}

-- A line can be answered: any request can, and the keeper, where it tells its contents, has those of the state.
pub record IsReady (database : Database) (contents : Option Kept) : Type 0 where
  pub can : CanAnswer database
  pub told : IfObserved contents (kept (state_of database))

-- the reply is that of the store where the keeper failed, and memory ran out where it lacked memory
abbrev pub NotKept : KeepFault → Result (List ℕ) NoMemory → Type 0
NotKept fault.Failed (Ok reply) = reply ≡ text store_fault
NotKept fault.Failed (Err e) = ⊥
NotKept fault.NoMemory (Ok reply) = ⊥
NotKept fault.NoMemory (Err e) = Unit {0}

-- the reply, or that of memory where it ran out
abbrev pub reply_of : Result (List ℕ) NoMemory → List ℕ
reply_of (Ok reply) = reply
reply_of (Err e) = text memory

-- The answer is given, or memory ran out and the state is as it was. A keeper that tells its contents goes on to tell those of the
-- new state. It was asked for one commit where the answer changes the state, and for nothing else.
pub record Outcome (answer : Answer × State) (old new : State) (count count' : ℕ) (contents contents' : Option Kept) (calls calls' : Option (List Call)) (result : Result (List ℕ) NoMemory) : Type 0 where
  pub valid : Valid new
  pub later : count ≤ count'
  pub told : Follows (λ _ now. now ≡ kept new) contents contents'
  pub ok : IfOk result (λ reply. Becomes answer old count reply new count')
  pub err : OnErr result (new ≡ old)
  pub commits : Adds (Commits answer old new count count' (reply_of result)) calls calls'
