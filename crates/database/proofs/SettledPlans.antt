-- What becomes of a plan.
use Rattle.std.proofs.Common.{◌≡◌, ◌∙◌, ◌+◌, ◌<◌, ◌≤◌, ℕ, List, [], ◌∷◌, ap, sym, subst, refl, inl, inr, arith, ◌≢◌, ◌↔◌, ◌-◌, ◌^◌, Option, Some, None, Result, Ok, Err, IsErr}
use Rattle.plain_values.proofs.Common.{true≢false}
use Rattle.no_memory.specs.declared.NoMemory.{NoMemory}
use Rattle.server_specs.specs.Common.{Adds, Rose, Answer, memory, text, answered, not_stored, State, kept, Valid}
use Rattle.io_specs.proofs.Calls.{Adds-none, Adds-weaker}
use Rattle.lens_specs.specs.Common.{CanChange, CanCommit, Change, Follows, Kept, Stays, IfObserved, changed}
use Rattle.table_keeper.specs.Asking.{AddsEnded}
use Rattle.table_keeper.specs.Changes.{change_view}
use Rattle.table_keeper.specs.declared.calls.Asked.TheVariants.{Commit}
use Rattle.table_keeper.specs.declared.calls.Call.{Call}
use Rattle.table_keeper.specs.declared.keeper.KeepFault.{KeepFault}
use Rattle.table_keeper.specs.declared.keeper.KeepFault.TheVariants as keep
use Rattle.database.proofs.Keyed.{same_keyed, same_state}
use Rattle.database.specs.Committing.{Commits, IsReply}
use Rattle.database.specs.Keyed.{IsSame}
use Rattle.database.specs.Outcomes.{IsReady, NotKept, Outcome}
use Rattle.database.specs.Plans.{IsStaged, after, change_of}
use Rattle.database.specs.States.{state_of}
use Rattle.database.specs.declared.plan.Staged.{Staged}
use Rattle.database.specs.declared.database.Database.{Database}

-- ---- what the keeper tells

can_commit : (change : Change) (contents : Option Kept) (k : Kept) → IfObserved contents k → CanChange change k → CanCommit change contents
can_commit change None k told can = tt
can_commit change (Some t) k told can = subst (CanChange change) (sym told) can

-- a change that is staged can be committed
pub staged_can : (staged : Staged) (database : Database) (contents : Option Kept) → IsStaged staged database → IfObserved contents (kept (state_of database)) → CanCommit (change_view (change_of staged.change)) contents
staged_can staged database contents h told = can_commit (change_view (change_of staged.change)) contents (kept (state_of database)) told h.kept.1

-- contents that follow the change are what is kept after it
told_after : (change : Change) (contents contents' : Option Kept) (k k' : Kept) → Follows (λ a b. b ≡ changed change a) contents contents' → IfObserved contents k → changed change k ≡ k'
    → Follows (λ _ now. now ≡ k') contents contents'
told_after change None None k k' f told is = tt
told_after change None (Some b) k k' f told is = absurd f
told_after change (Some a) None k k' f told is = absurd f
told_after change (Some a) (Some b) k k' f told is = f ∙ ap (changed change) told ∙ is

-- contents that stay are what was kept
pub told_still : (contents contents' : Option Kept) (k : Kept) → Stays contents contents' → IfObserved contents k → Follows (λ _ now. now ≡ k) contents contents'
told_still None None k s told = tt
told_still None (Some b) k s told = absurd s
told_still (Some a) None k s told = absurd s
told_still (Some a) (Some b) k s told = s ∙ told

-- contents of a keeper that was not called
pub told_untouched : (contents : Option Kept) (k : Kept) → IfObserved contents k → Follows (λ _ now. now ≡ k) contents contents
told_untouched None k told = tt
told_untouched (Some a) k told = told

-- ---- databases that are ready

-- a database that differs by the room of its catalogue alone is ready too
pub still_ready : (old new : Database) (contents : Option Kept) → IsSame old new → IsReady old contents → IsReady new contents
still_ready old new contents s r =
    let same = sym (same_state old new s) in
    record {
      can = record {
        valid = subst Valid same r.can.valid;
        keyed = same_keyed old new s r.can.keyed;
        room = subst (λ version. version < 2 ^ 64 - 1) (sym s.version) r.can.room;
      };
      told = subst (λ state. IfObserved contents (kept state)) same r.told;
    }

-- ---- commits

pub raised : (staged : Staged) (s t : State) → t ≡ after staged s → t ≢ s
raised staged s t is same = let up : t.version ≡ s.version + 1 = ap (λ x. x.version) is in let no : t.version ≡ s.version = ap (λ x. x.version) same in absurd (omega (arith, up, no))

-- a staged change was committed, or not
committed : (staged : Staged) (s : State) (a : Answer × State) (new : State) (count count' : ℕ) (fault : Option KeepFault) (reply : List ℕ) (calls calls' : Option (List Call))
    → a.1 ≡ after staged s → ((fault ≡ None) ↔ (new ≡ a.1)) → IsReply fault a.0 reply → AddsEnded calls calls' Commit fault count' → Adds (Commits a s new count count' reply) calls calls'
committed staged s a new count count' fault reply calls calls' is done told call =
    Adds-weaker (λ more. more ≡ record { asked = Commit; fault = fault; faults = count' } ∷ []) (Commits a s new count count' reply) calls calls'
    (λ more e. subst (Commits a s new count count' reply) (sym e) (raised staged s a.1 is, refl, refl, done, told)) call

not_done : (staged : Staged) (s : State) (a : Answer × State) (fault : KeepFault) → a.1 ≡ after staged s → (Some fault ≡ None) ↔ (s ≡ a.1)
not_done staged s a fault is = ((λ e. cc), (λ e. absurd (raised staged s a.1 is (sym e))))

-- ---- outcomes

-- nothing changes, and the answer is given
pub outcome_unchanged : (answer : Answer × State) (s : State) (count : ℕ) (contents : Option Kept) (calls : Option (List Call)) (reply : List ℕ) → Valid s → IfObserved contents (kept s) → reply ≡ text answer.0 → answer.1 ≡ s
    → Outcome answer s s count count contents contents calls calls (Ok reply)
outcome_unchanged answer s count contents calls reply v told r is =
    record { valid = v; later = omega arith; told = told_untouched contents (kept s) told; ok = answered r (sym is); err = tt; commits = Adds-none _ calls (refl, inl is) }

-- memory ran out before the keeper was called
pub outcome_given_up : (answer : Answer × State) (s : State) (count : ℕ) (contents : Option Kept) (calls : Option (List Call)) (result : Result (List ℕ) NoMemory) → IsErr result → Valid s → IfObserved contents (kept s)
    → Outcome answer s s count count contents contents calls calls result
outcome_given_up answer s count contents calls (Ok reply) is v told = absurd (true≢false (sym is))
outcome_given_up answer s count contents calls (Err e) is v told =
    record { valid = v; later = omega arith; told = told_untouched contents (kept s) told; ok = tt; err = refl; commits = Adds-none _ calls (refl, inr refl) }

-- the change is made
pub outcome_made : (staged : Staged) (database : Database) (answer : Answer × State) (count count' : ℕ) (contents contents' : Option Kept) (calls calls' : Option (List Call)) (reply : List ℕ) → IsStaged staged database
    → IfObserved contents (kept (state_of database)) → Follows (λ a b. b ≡ changed (change_view (change_of staged.change)) a) contents contents' → AddsEnded calls calls' Commit None count' → count ≤ count'
    → reply ≡ text answer.0 → answer.1 ≡ after staged (state_of database) → (new : State) → new ≡ after staged (state_of database)
    → Outcome answer (state_of database) new count count' contents contents' calls calls' (Ok reply)
outcome_made staged database answer count count' contents contents' calls calls' reply h told follows call later r is new became = record {
  valid = subst Valid (sym became) h.valid;
  later = later;
  told = told_after (change_view (change_of staged.change)) contents contents' (kept (state_of database)) (kept new) follows told (sym (ap kept became ∙ h.kept.0));
  ok = answered r (became ∙ sym is);
  err = tt;
  commits = committed staged (state_of database) answer new count count' None reply calls calls' is ((λ _. became ∙ sym is), (λ _. refl)) r call;
}

-- the keeper failed, or lacked memory
pub outcome_failed : (fault : KeepFault) (result : Result (List ℕ) NoMemory) (staged : Staged) (database : Database) (answer : Answer × State) (count count' : ℕ) (contents contents' : Option Kept) (calls calls' : Option (List Call))
    → NotKept fault result → Valid (state_of database) → IfObserved contents (kept (state_of database)) → Stays contents contents' → AddsEnded calls calls' Commit (Some fault) count' → count ≤ count' → (fault ≡ keep.Failed → Rose count count')
    → answer.1 ≡ after staged (state_of database) → (new : State) → new ≡ state_of database → Outcome answer (state_of database) new count count' contents contents' calls calls' result
outcome_failed keep.Failed (Ok reply) staged database answer count count' contents contents' calls calls' told v tells stays call later rose is new same =
    subst (λ s. Outcome answer (state_of database) s count count' contents contents' calls calls' (Ok reply)) (sym same)
    (record {
      valid = v;
      later = later;
      told = told_still contents contents' (kept (state_of database)) stays tells;
      ok = not_stored told refl (raised staged (state_of database) answer.1 is) (rose refl);
      err = tt;
      commits = committed staged (state_of database) answer (state_of database) count count' (Some keep.Failed) reply calls calls' is (not_done staged (state_of database) answer keep.Failed is) told call;
    })
outcome_failed keep.Failed (Err e) staged database answer count count' contents contents' calls calls' told v tells stays call later rose is new same = absurd told
outcome_failed keep.NoMemory (Ok reply) staged database answer count count' contents contents' calls calls' told v tells stays call later rose is new same = absurd told
outcome_failed keep.NoMemory (Err e) staged database answer count count' contents contents' calls calls' told v tells stays call later rose is new same =
    subst (λ s. Outcome answer (state_of database) s count count' contents contents' calls calls' (Err e)) (sym same)
    (record {
      valid = v;
      later = later;
      told = told_still contents contents' (kept (state_of database)) stays tells;
      ok = tt;
      err = refl;
      commits = committed staged (state_of database) answer (state_of database) count count' (Some keep.NoMemory) (text memory) calls calls' is (not_done staged (state_of database) answer keep.NoMemory is) refl call;
    })
