-- What stands for the faults of other crates, and what a keeper answers to it.
use Rattle.std.specs.Prelude.{◌≡◌, ◌↔◌}
use Rattle.table_keeper.specs.declared.keeper.KeepFault.{KeepFault}
use Rattle.table_keeper.specs.declared.keeper.KeepFault.TheVariants as fault
use Rattle.sqlite.specs.declared.error.Error.{Error}
use Rattle.sqlite.specs.declared.error.Error.TheVariants.{SqliteFailure}
use Rattle.sqlite.specs.declared.error.ErrorCode.TheVariants.{OutOfMemory}
use Rattle.sqlite_keeper.specs.declared.refusal.Refusal.{Refusal}
use Rattle.sqlite_keeper.specs.declared.refusal.Refusal.TheVariants.{Failed, NoMemory}

-- whatever the error is, the refusal is want of memory
abbrev pub IsWantOfMemory : {E : Type 0} → E → Refusal → Type 0
IsWantOfMemory _ refusal = refusal ≡ NoMemory

-- want of memory stays what it is, and nothing else becomes it
abbrev pub KeepsWantOfMemory : {E : Type 0} → E → E → Refusal → Type 0
KeepsWantOfMemory no_memory error refusal = (refusal ≡ NoMemory) ↔ (error ≡ no_memory)

-- sqlite's error where memory ran out
abbrev pub out_of_memory : Error
out_of_memory = SqliteFailure OutOfMemory

-- the fault that a keeper answers
abbrev pub fault_of : Refusal → KeepFault
fault_of Failed = fault.Failed
fault_of NoMemory = fault.NoMemory
