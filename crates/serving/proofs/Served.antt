-- What `run` has done before it takes the next line.
use Rattle.std.proofs.Common.{◌≡◌, ◌≤◌, ◌<◌, ◌+◌, ◌-◌, ◌^◌, ℕ, false, List, [], length, ap, subst, refl, arith, length-append, None, Some}
use Rattle.std.specs.declared.option.Option.{Option}
use Rattle.server_specs.specs.Common.{Adds, Line, State, kept, Session}
use Rattle.io_specs.proofs.Calls.{Adds-none}
use Rattle.std.specs.Io.KnownBytes.{Appends}
use Rattle.lens_specs.specs.Common.{Kept, Follows, IfObserved}
use Rattle.server_specs.proofs.Sessions.{Session-nil}
use Rattle.lens_io.specs.Calls.{Call as Take}
use Rattle.lens_io.specs.declared.told.Offer.{Offer}
use Rattle.lens_io.specs.Cutting.{Cutter}
use Rattle.lens_io.proofs.Fronts.{Appends-nil}
use Rattle.lens_io.proofs.Asked.{Asked, Asked-nil}
use Rattle.lens_io.proofs.Taken.{Taken, Taken-nil, nil_all}
use Rattle.table_keeper.specs.declared.calls.Call.{Call}
use Rattle.lens_server.specs.Committing.{CommitsForAll}
use Rattle.rehearsal.specs.Walking.{most_walked_in}
use Rattle.serving.specs.Exports.{AreReadBack}
use Rattle.serving.specs.Offering.{OffersEach}
use Rattle.serving.specs.Running.{joined}

-- Where they are told, the contents are those of this state, and were told before.
abbrev pub IsStored : State → Option Kept → Option Kept → Type 0
IsStored server = Follows (λ _ now. now ≡ kept server)

pub told_now : (server : State) (contents contents' : Option Kept) → IsStored server contents contents' → IfObserved contents' (kept server)
told_now server None None h = tt
told_now server None (Some now) h = absurd h
told_now server (Some old) None h = absurd h
told_now server (Some old) (Some now) h = h

pub stored_same : (server : State) (contents : Option Kept) → IfObserved contents (kept server) → IsStored server contents contents
stored_same server None h = tt
stored_same server (Some now) h = h

pub stored_next : (server server' : State) (contents mid contents' : Option Kept) → IsStored server contents mid → IsStored server' mid contents' → IsStored server' contents contents'
stored_next server server' None None contents' p q = q
stored_next server server' None (Some m) contents' p q = absurd p
stored_next server server' (Some old) None contents' p q = absurd p
stored_next server server' (Some old) (Some m) None p q = absurd q
stored_next server server' (Some old) (Some m) (Some now) p q = q

pub record Served (first : State) (limit : ℕ) (cutter : Cutter) (server : State) (left0 left given0 given : Option (List ℕ)) (asked0 asked : Option (List Take)) (offered0 offered : Option (List Offer)) (count0 count : ℕ) (contents0 contents : Option Kept) (calls0 calls : Option (List Call)) (walked0 walked : ℕ) : Type 0 where
  pub lines : List Line
  pub replies : List (List ℕ)
  pub taken : Taken lines cutter.pending cutter.taken cutter.ended left0 left
  pub asks : Adds (Asked lines limit taken.all cutter.ended) asked0 asked
  pub offers : Adds (OffersEach replies) offered0 offered
  pub session : Session first count0 lines replies server count
  pub few : walked ≤ walked0 + most_walked_in first session.exchanges
  pub exports : AreReadBack first session.exchanges
  pub commits : Adds (CommitsForAll first count0 session.exchanges) calls0 calls
  pub stored : IsStored server contents0 contents
  pub gave : Appends given0 given (joined replies)
  pub version : server.version ≤ first.version + length lines
  pub as_many : length replies ≡ length lines
  pub limit_is : cutter.limit ≡ limit
  pub within : cutter.taken ≤ cutter.limit + 1
  pub going : cutter.done ≡ false

pub Served-nil : (first : State) (limit : ℕ) (left given : Option (List ℕ)) (asked : Option (List Take)) (offered : Option (List Offer)) (count : ℕ) (contents : Option Kept) (calls : Option (List Call)) (walked : ℕ) → IfObserved contents (kept first)
    → Served first limit (record { pending = []; line = []; taken = 0; limit = limit; ended = false; done = false }) first left left given given asked asked offered offered count count contents contents calls calls walked walked
Served-nil first limit left given asked offered count contents calls walked told = record {
  lines = [];
  replies = [];
  taken = Taken-nil left;
  asks = Adds-none (Asked [] limit (Taken-nil left).all false) asked (subst (λ v. Asked [] limit v false []) (nil_all left) (Asked-nil limit));
  offers = Adds-none (OffersEach []) offered refl;
  session = Session-nil first count;
  few = omega arith;
  exports = tt;
  commits = Adds-none _ calls refl;
  stored = stored_same first contents told;
  gave = Appends-nil given;
  version = omega arith;
  as_many = refl;
  limit_is = refl;
  within = omega arith;
  going = refl;
}

-- a version never rises above the bytes that were taken
pub room : (first : State) (limit : ℕ) (cutter : Cutter) (server : State) (left0 left given0 given : Option (List ℕ)) (asked0 asked : Option (List Take)) (offered0 offered : Option (List Offer)) (count0 count : ℕ) (contents0 contents : Option Kept) (calls0 calls : Option (List Call)) (walked0 walked : ℕ)
    → Served first limit cutter server left0 left given0 given asked0 asked offered0 offered count0 count contents0 contents calls0 calls walked0 walked → first.version + limit + 1 < 2 ^ 64 - 1 → server.version < 2 ^ 64 - 1
room first limit cutter server left0 left given0 given asked0 asked offered0 offered count0 count contents0 contents calls0 calls walked0 walked s few =
    let t = s.taken in
    omega (arith, few, s.version, s.within, s.limit_is, t.few, t.counted, ap length t.parts, length-append t.front cutter.pending)
