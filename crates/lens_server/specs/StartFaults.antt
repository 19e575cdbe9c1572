-- Why a server is not started.
use Rattle.table_keeper.specs.declared.keeper.KeepFault.{KeepFault}
use Rattle.table_keeper.specs.declared.keeper.KeepFault.TheVariants as keep
use Rattle.database_opening.specs.declared.fault.OpenFault.{OpenFault}
use Rattle.database_opening.specs.declared.fault.OpenFault.TheVariants as opening
use Rattle.lens_server.specs.declared.startup.fault.StartFault.{StartFault}
use Rattle.lens_server.specs.declared.startup.fault.StartFault.TheVariants.{Damaged, StoreFault, NoMemory}

-- where its keeper refused
abbrev pub of_keeper : KeepFault → StartFault
of_keeper keep.Failed = StoreFault
of_keeper keep.NoMemory = NoMemory

-- where what is kept does not open
abbrev pub of_opening : OpenFault → StartFault
of_opening (opening.Damaged damage) = Damaged damage
of_opening opening.NoMemory = NoMemory
