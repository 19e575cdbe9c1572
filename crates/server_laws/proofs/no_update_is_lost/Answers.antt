use Rattle.server_laws.proofs.NoLost.{no_export_lost, no_update_lost}
use Rattle.server_laws.proofs.no_update_is_lost.Goals as goal

pub returns : goal.returns
returns c = record { read = no_update_lost; exported = no_export_lost }
