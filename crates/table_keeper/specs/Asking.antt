-- What a keeper is asked, call after call.
use Rattle.std.specs.Prelude.{◌≡◌, ℕ, List, [], ◌∷◌, Vec, Option, None, Some, Result, Ok, Err}
use Rattle.std.specs.declared.alloc.Global.{Global}
use Rattle.io_specs.specs.Calls.{Adds}
use Rattle.table_keeper.specs.declared.calls.Asked.{Asked}
use Rattle.table_keeper.specs.declared.calls.Call.{Call}
use Rattle.table_keeper.specs.declared.keeper.KeepFault.{KeepFault}

-- the fault that an answer is, if it is one
abbrev pub fault_of : {A : Type 0} → Result A KeepFault → Option KeepFault
fault_of (Ok given) = None
fault_of (Err fault) = Some fault

-- a call that was done, and one that ended with a fault; this was the count of faults after it
abbrev pub done_call : Asked → ℕ → Call
done_call asked count = record { asked = asked; fault = None; faults = count }

abbrev pub stopped_call : Asked → KeepFault → ℕ → Call
stopped_call asked fault count = record { asked = asked; fault = Some fault; faults = count }

-- known calls are followed by this one: what was asked, the fault, if there was one, and the count after it
abbrev pub AddsEnded : Option (List Call) → Option (List Call) → Asked → Option KeepFault → ℕ → Type 0
AddsEnded old new asked fault count = Adds (λ more. more ≡ record { asked = asked; fault = fault; faults = count } ∷ []) old new

-- known calls are followed by the one that had this answer, and this count after it
abbrev pub AddsCall : {A : Type 0} → Option (List Call) → Option (List Call) → Asked → Result A KeepFault → ℕ → Type 0
AddsCall old new asked answer count = AddsEnded old new asked (fault_of answer) count

-- the calls that are kept, if there is still a list of them
abbrev pub calls_kept : Option (Vec Call Global) → Option (List Call)
calls_kept None = None
calls_kept (Some calls) = Some calls.items
