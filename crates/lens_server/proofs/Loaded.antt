-- The call of a start, by what came of it.
use Rattle.std.proofs.Common.{◌≡◌, ℕ, List, [], ◌∷◌, inl, inr, Option, Err}
use Rattle.lens_specs.specs.Common.{Kept, IfObserved}
use Rattle.table_keeper.specs.Asking.{done_call, stopped_call}
use Rattle.table_keeper.specs.declared.calls.Asked.TheVariants.{Load}
use Rattle.table_keeper.specs.declared.calls.Call.{Call}
use Rattle.table_keeper.specs.declared.keeper.KeepFault.{KeepFault}
use Rattle.table_keeper.specs.declared.keeper.KeepFault.TheVariants as keep
use Rattle.database_opening.specs.Openings.{IsDatabaseOf}
use Rattle.database_opening.specs.declared.fault.OpenFault.{OpenFault}
use Rattle.database_opening.specs.declared.fault.OpenFault.TheVariants as opening
use Rattle.lens_server.specs.StartFaults.{of_keeper, of_opening}
use Rattle.lens_server.specs.Starting.{IsLoad, Opens}

-- the keeper failed, or lacked memory
pub load_failed : (why : KeepFault) (count : ℕ) (calls : List Call) → calls ≡ stopped_call Load why count ∷ [] → IsLoad (Err (of_keeper why)) count calls
load_failed keep.Failed count calls is = is
load_failed keep.NoMemory count calls is = inr is

-- what was loaded is damaged, or memory ran out
pub load_done : (why : OpenFault) (count : ℕ) (calls : List Call) → calls ≡ done_call Load count ∷ [] → IsLoad (Err (of_opening why)) count calls
load_done (opening.Damaged damage) count calls is = is
load_done opening.NoMemory count calls is = inl is

-- what was loaded, where it does not open to a state
pub start_told : (why : OpenFault) (contents : Option Kept) (k : Kept) → IfObserved contents k → IsDatabaseOf (Err why) k → Opens contents (Err (of_opening why))
start_told (opening.Damaged damage) contents k told is = (k, told, is)
start_told opening.NoMemory contents k told is = tt
