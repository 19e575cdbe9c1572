-- What follows from the opening of a store.
use Rattle.std.proofs.Common.{◌≡◌, ◌≢◌, ◌≤◌, ℕ, Bool, true, false, List, length, Option, Some, None, is_some, Result, Ok, Err, refl, sym, ap, subst, ◌∙◌, ◌↔◌, IfOk}
use Rattle.server_specs.specs.Common.{Adds, State, kept}
use Rattle.lens_specs.specs.Common.{Kept, Follows, Stays, IfObserved}
use Rattle.opening_specs.specs.Opening.{Damage, IsOpened, damage_text}
use Rattle.opening_laws.proofs.Opened.{opened_is_kept, opened_at_start}
use Rattle.std.specs.Io.KnownBytes.{Appends}
use Rattle.lens_io.specs.Bytes.{AppendsFront, GivesUnlessFailed}
use Rattle.lens_io.specs.Calls.{Call as Take, OffersRest}
use Rattle.lens_io.specs.declared.told.Offer.{Offer}
use Rattle.arguments.specs.Settings.{Settings}
use Rattle.lens_server.specs.Starting.{Opens}
use Rattle.lens_server.specs.declared.startup.fault.StartFault.{StartFault}
use Rattle.lens_server.specs.declared.startup.fault.StartFault.TheVariants as fault
use Rattle.rehearsal.specs.Rehearsal.{rehearsal}
use Rattle.rehearsal.specs.Rehearsed.{Rehearsed, Stopped}
use Rattle.table_keeper.specs.declared.calls.Call.{Call}
use Rattle.serving.specs.Running.{Loads, OpensBy, Refuses, Rehearses, Runs, Serves, StaysAtEntry, StopsShort}
use Rattle.serving.specs.Running as running
use Rattle.serving.proofs.Calls.{lacks_by}
use Rattle.serving.specs.Opening.{OpensTo, IsDamage, IsOpening}

-- ---- contents that stay

pub stays_same : (contents : Option Kept) → Stays contents contents
stays_same None = tt
stays_same (Some now) = refl

told_before : (a b : Option Kept) (k : Kept) → Stays a b → IfObserved b k → IfObserved a k
told_before None None k p t = tt
told_before None (Some m) k p t = absurd p
told_before (Some old) None k p t = absurd p
told_before (Some old) (Some now) k p t = sym p ∙ t

told_after : (a b : Option Kept) (k : Kept) → Stays a b → IfObserved a k → IfObserved b k
told_after None None k p t = tt
told_after None (Some m) k p t = absurd p
told_after (Some old) None k p t = absurd p
told_after (Some old) (Some now) k p t = p ∙ t

-- contents that follow others are told where those are
pub as_told : (P : Kept → Kept → Type 0) (a b : Option Kept) → Follows P a b → is_some b ≡ is_some a
as_told P None None h = refl
as_told P None (Some m) h = absurd h
as_told P (Some old) None h = absurd h
as_told P (Some old) (Some now) h = refl

-- what holds of the last contents does not speak of the first ones
pub follows_from : (P : Kept → Type 0) (a b c : Option Kept) → is_some b ≡ is_some a → Follows (λ _ now. P now) b c → Follows (λ _ now. P now) a c
follows_from P None None c e h = h
follows_from P None (Some m) c e h = absurd (let no : true ≡ false = e in cc)
follows_from P (Some old) None c e h = absurd (let no : false ≡ true = e in cc)
follows_from P (Some old) (Some m) None e h = absurd h
follows_from P (Some old) (Some m) (Some now) e h = h

-- ---- the start

loads : (store : Option (List ℕ)) (stays : Bool) (contents chosen : Option Kept) (count start : ℕ) (result : Result State Damage)
    → StaysAtEntry store stays contents chosen → count ≤ start → IsOpened chosen result → Loads store stays contents count start result
loads store stays contents chosen count start result at_entry later w = record {
  loaded = w.0;
  at_entry = λ e. told_before contents chosen w.0 (at_entry e) w.1;
  opens = w.2;
  later = later;
}

-- what the chosen contents open to is opened
pub starts : (store : Option (List ℕ)) (stays : Bool) (contents chosen contents' : Option Kept) (count start : ℕ) (result : Result State StartFault)
    → StaysAtEntry store stays contents chosen → count ≤ start → Opens chosen result → Stays chosen contents' → OpensTo store stays contents contents' count start result
unfolding loads
starts store stays contents chosen contents' count start (Ok s) at_entry later w same = loads store stays contents chosen count start (Ok s) at_entry later w
starts store stays contents chosen contents' count start (Err (fault.Damaged damage)) at_entry later w same =
    (loads store stays contents chosen count start _ at_entry later w, told_after chosen contents' w.0 same w.1)
starts store stays contents chosen contents' count start (Err fault.StoreFault) at_entry later w same = tt
starts store stays contents chosen contents' count start (Err fault.NoMemory) at_entry later w same = tt

-- a state that was started is at version 0
pub at_first : (chosen : Option Kept) (result : Result State StartFault) → Opens chosen result → IfOk result (λ s. s.version ≡ 0)
at_first chosen (Ok s) w = ap (λ (t : State). t.version) (opened_at_start w.0 s w.2)
at_first chosen (Err e) w = tt

-- and the contents are those that are kept of it
pub told_kept : (chosen now : Option Kept) (result : Result State StartFault) → Opens chosen result → Stays chosen now → IfOk result (λ s. IfObserved now (kept s))
told_kept chosen now (Ok s) w stays = subst (IfObserved now) (sym (opened_is_kept w.0 s w.2)) (told_after chosen now w.0 stays w.1)
told_kept chosen now (Err e) w stays = tt

-- ---- a run from the state that was started

from_entry : (first : State) (limit status : ℕ) (left left' given given' : Option (List ℕ)) (asked asked' : Option (List Take)) (offered offered' : Option (List Offer)) (count count' : ℕ) (contents chosen contents' : Option Kept) (calls calls' : Option (List Call)) (walked walked' : ℕ) → is_some chosen ≡ is_some contents
    → Serves first limit status left left' given given' asked asked' offered offered' count count' chosen contents' calls calls' walked walked' → Serves first limit status left left' given given' asked asked' offered offered' count count' contents contents' calls calls' walked walked'
from_entry first limit status left left' given given' asked asked' offered offered' count count' contents chosen contents' calls calls' walked walked' told w = record {
  came = w.came;
  consumed = w.consumed;
  most = w.most;
  taken = w.taken;
  replies = w.replies;
  last = w.last;
  session = w.session;
  few = w.few;
  exports = w.exports;
  commits = w.commits;
  stored = follows_from (λ now. now ≡ kept w.last) contents chosen contents' told w.stored;
  all_lines = w.all_lines;
  failed_lines = w.failed_lines;
  spent_lines = w.spent_lines;
  some_lines = w.some_lines;
  all_replies = w.all_replies;
  some_replies = w.some_replies;
  in_time = w.in_time;
  asks = w.asks;
  asks_in_time = w.asks_in_time;
  offers = w.offers;
  offers_until = w.offers_until;
}

-- lines that were served over the chosen contents are a run
pub runs : (s : Settings) (stays : Bool) (first : State) (limit status : ℕ) (left left' given given' : Option (List ℕ)) (asked asked' : Option (List Take)) (offered offered' : Option (List Offer)) (count start count' : ℕ) (contents chosen contents' : Option Kept) (calls middle calls' : Option (List Call)) (walked walked' : ℕ)
    → Loads s.store stays contents count start (Ok first) → Adds (OpensBy s.store start) calls middle → is_some chosen ≡ is_some contents → limit ≡ s.max_input
    → Serves first limit status left left' given given' asked asked' offered offered' start count' chosen contents' middle calls' walked walked' → Runs s stays status left left' given given' asked asked' offered offered' count count' contents contents' calls calls' walked walked'
runs s stays first limit status left left' given given' asked asked' offered offered' count start count' contents chosen contents' calls middle calls' walked walked' loaded opened_by told same w = record {
  first = first;
  start = start;
  loads = loaded;
  middle = middle;
  opened_by = opened_by;
  serves = subst (λ n. Serves first n status left left' given given' asked asked' offered offered' start count' contents contents' middle calls' walked walked') same
      (from_entry first limit status left left' given given' asked asked' offered offered' start count' contents chosen contents' middle calls' walked walked' told w);
}

-- and so is a rehearsal
pub rehearses : (s : Settings) (n : ℕ) (stays : Bool) (first last : State) (status : ℕ) (line : List ℕ) (given given' : Option (List ℕ)) (offered offered' : Option (List Offer)) (count start count' : ℕ) (contents chosen contents' : Option Kept) (calls middle calls' : Option (List Call)) (walked walked' : ℕ)
    → Loads s.store stays contents count start (Ok first) → Adds (OpensBy s.store start) calls middle → is_some chosen ≡ is_some contents → Rehearsed first start (rehearsal n) line last count' middle calls' walked walked' → Follows (λ _ now. now ≡ kept last) chosen contents'
    → (status ≡ 0 → Appends given given' line) → (status ≡ 5 → AppendsFront given given' line) → Adds (OffersRest (length line)) offered offered' → Rehearses s n stays status given given' offered offered' count count' contents contents' calls calls' walked walked'
rehearses s n stays first last status line given given' offered offered' count start count' contents chosen contents' calls middle calls' walked walked' loaded opened_by told rehearsed stored all some offers = record {
  first = first;
  start = start;
  loads = loaded;
  told = line;
  last = last;
  middle = middle;
  opened_by = opened_by;
  rehearsed = rehearsed;
  stored = follows_from (λ now. now ≡ kept last) contents chosen contents' told stored;
  all = all;
  some = some;
  offers = offers;
}

-- one that stopped for want of memory
pub stops : (s : Settings) (n : ℕ) (stays : Bool) (first last : State) (count start count' : ℕ) (contents chosen contents' : Option Kept) (calls middle calls' : Option (List Call)) (walked walked' : ℕ)
    → Loads s.store stays contents count start (Ok first) → Adds (OpensBy s.store start) calls middle → is_some chosen ≡ is_some contents → Stopped first start (rehearsal n) last count' middle calls' walked walked'
    → Follows (λ _ now. now ≡ kept last) chosen contents' → StopsShort s n stays count count' contents contents' calls calls' walked walked'
stops s n stays first last count start count' contents chosen contents' calls middle calls' walked walked' loaded opened_by told stopped stored =
    running.amid first last start middle loaded opened_by stopped (follows_from (λ now. now ≡ kept last) contents chosen contents' told stored)

-- one that did not begin
pub stops_early : (s : Settings) (n : ℕ) (stays : Bool) (status start : ℕ) (e : StartFault) (count count' : ℕ) (contents contents' : Option Kept) (calls calls' : Option (List Call)) (walked walked' : ℕ)
    → StaysAtEntry s.store stays contents contents' → (status ≡ 6) ↔ (e ≡ fault.StoreFault) → Adds (IsOpening s.store (Err e) start) calls calls' → status ≡ 3
    → walked' ≡ walked → StopsShort s n stays count count' contents contents' calls calls' walked walked'
stops_early s n stays status start e count count' contents contents' calls calls' walked walked' stay six opened_by is same =
    running.before stay (lacks_by s.store status start e calls calls' six opened_by is) same

-- ---- a start that failed

-- a damage whose line was given is refused
pub refused : (s : Settings) (stays : Bool) (contents contents' : Option Kept) (count start : ℕ) (e : StartFault) (given given' : Option (List ℕ)) (offered offered' : Option (List Offer)) (failures failures' : ℕ) (calls calls' : Option (List Call))
    → OpensTo s.store stays contents contents' count start (Err e) → Adds (IsOpening s.store (Err e) start) calls calls' → IsDamage e (λ damage. GivesUnlessFailed given given' failures failures' (damage_text damage) × Adds (OffersRest (length (damage_text damage))) offered offered')
    → Refuses s stays given given' offered offered' failures failures' count contents contents' calls calls'
refused s stays contents contents' count start (fault.Damaged damage) given given' offered offered' failures failures' calls calls' opens opened_by told =
    record { damage = _; start = start; loads = opens.0; still_kept = opens.1; opened_by = opened_by; told = told.0; offers = told.1 }
refused s stays contents contents' count start fault.StoreFault given given' offered offered' failures failures' calls calls' opens opened_by told = absurd told
refused s stays contents contents' count start fault.NoMemory given given' offered offered' failures failures' calls calls' opens opened_by told = absurd told

-- what holds unless the keeper failed or memory ran out holds at a damage
pub at_damage : (e : StartFault) (status : ℕ) (Q : Damage → Type 0) (P : Type 0) → status ≡ 7 → (status ≡ 7 → IsDamage e Q) → (e ≢ fault.StoreFault → e ≢ fault.NoMemory → P) → P
at_damage (fault.Damaged damage) status Q P seven damaged p = p (λ e. cc) (λ e. cc)
at_damage fault.StoreFault status Q P seven damaged p = absurd (damaged seven)
at_damage fault.NoMemory status Q P seven damaged p = absurd (damaged seven)
