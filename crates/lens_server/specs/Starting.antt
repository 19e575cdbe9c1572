-- What a start gives, and what it asks of the keeper.
use Rattle.std.specs.Prelude.{◌≡◌, ◌⊎◌, ℕ, List, [], ◌∷◌, Option, Result, Ok, Err}
use Rattle.lens_specs.specs.Keeping.{Kept}
use Rattle.server_specs.specs.State.{State}
use Rattle.opening_specs.specs.Opening.{IsOpened}
use Rattle.table_keeper.specs.Asking.{done_call, stopped_call}
use Rattle.table_keeper.specs.declared.calls.Asked.TheVariants.{Load}
use Rattle.table_keeper.specs.declared.calls.Call.{Call}
use Rattle.table_keeper.specs.declared.keeper.KeepFault.TheVariants as keep
pub use Rattle.database_opening.specs.Openings.{damage_view}
use Rattle.lens_server.specs.declared.startup.fault.StartFault.{StartFault}
use Rattle.lens_server.specs.declared.startup.fault.StartFault.TheVariants as fault

-- the state, or the damage, is what was loaded opens to, unless the keeper failed or memory ran out
abbrev pub Opens : Option Kept → Result State StartFault → Type 0
Opens contents (Ok s) = IsOpened contents (Ok s)
Opens contents (Err (fault.Damaged damage)) = IsOpened contents (Err (damage_view damage))
Opens contents (Err fault.StoreFault) = Unit {0}
Opens contents (Err fault.NoMemory) = Unit {0}

-- The one call of a start is a load, which was done where there is a state or a damage; this was the count of faults after it.
abbrev pub IsLoad : Result State StartFault → ℕ → List Call → Type 0
IsLoad (Ok s) count calls = calls ≡ done_call Load count ∷ []
IsLoad (Err (fault.Damaged damage)) count calls = calls ≡ done_call Load count ∷ []
IsLoad (Err fault.StoreFault) count calls = calls ≡ stopped_call Load keep.Failed count ∷ []
IsLoad (Err fault.NoMemory) count calls = (calls ≡ done_call Load count ∷ []) ⊎ (calls ≡ stopped_call Load keep.NoMemory count ∷ [])
