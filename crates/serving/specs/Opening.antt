-- How a run opens its store.
use Rattle.std.specs.Prelude.{◌≡◌, ◌⊎◌, ℕ, Bool, List, [], ◌∷◌, Option, None, Some, Result, Ok, Err}
use Rattle.lens_specs.specs.Keeping.{Kept, IfObserved}
use Rattle.server_specs.specs.State.{State}
use Rattle.opening_specs.specs.Opening.{Damage}
use Rattle.lens_server.specs.Starting.{damage_view}
use Rattle.lens_server.specs.declared.startup.fault.StartFault.{StartFault}
use Rattle.lens_server.specs.declared.startup.fault.StartFault.TheVariants as fault
use Rattle.table_keeper.specs.Asking.{fault_of}
use Rattle.table_keeper.specs.declared.calls.Asked.TheVariants.{Attach}
use Rattle.table_keeper.specs.declared.calls.Call.{Call}
use Rattle.table_keeper.specs.declared.keeper.KeepFault.{KeepFault}
use Rattle.table_keeper.specs.declared.keeper.KeepFault.TheVariants as keep
use Rattle.serving.specs.Running.{FailsBy, Loads, OpensBy, StopsBy}

-- The state, or the damage, is what was loaded opens to, unless the keeper failed or memory ran out. What is damaged is what is kept then, where that is told.
abbrev pub OpensTo : Option (List ℕ) → Bool → Option Kept → Option Kept → ℕ → ℕ → Result State StartFault → Type 0
OpensTo store stays contents contents' count start (Ok s) = Loads store stays contents count start (Ok s)
OpensTo store stays contents contents' count start (Err (fault.Damaged damage)) = (loads : Loads store stays contents count start (Err (damage_view damage))) × IfObserved contents' loads.loaded
OpensTo store stays contents contents' count start (Err fault.StoreFault) = Unit {0}
OpensTo store stays contents contents' count start (Err fault.NoMemory) = Unit {0}

-- an attach where a place is chosen, with this answer; this was the count of faults after it
abbrev pub IsAttach : Option (List ℕ) → Result (Unit {0}) KeepFault → ℕ → List Call → Type 0
IsAttach None answer count calls = calls ≡ []
IsAttach (Some place) answer count calls = calls ≡ record { asked = Attach; fault = fault_of answer; faults = count } ∷ []

-- the calls that open a store, by what came of it; this was the count of faults after the last of them
abbrev pub IsOpening : Option (List ℕ) → Result State StartFault → ℕ → List Call → Type 0
IsOpening store (Ok s) count calls = OpensBy store count calls
IsOpening store (Err (fault.Damaged damage)) count calls = OpensBy store count calls
IsOpening store (Err fault.StoreFault) count calls = FailsBy store calls
IsOpening store (Err fault.NoMemory) count calls = StopsBy store keep.NoMemory calls ⊎ OpensBy store count calls

-- the fault is a damage, of which this holds
abbrev pub IsDamage : StartFault → (Damage → Type 0) → Type 0
IsDamage (fault.Damaged damage) P = P (damage_view damage)
IsDamage fault.StoreFault P = ⊥
IsDamage fault.NoMemory P = ⊥

-- the statuses of a run that did not begin
abbrev pub IsUnserved : ℕ → Type 0
IsUnserved status = (status ≡ 3) ⊎ ((status ≡ 6) ⊎ (status ≡ 7))
