use Rattle.server_laws.proofs.ChangeExample.{batches_can_change, undos_can_restore, updates_can_rest}
use Rattle.server_laws.proofs.Example.{drops_can_change}
use Rattle.server_laws.proofs.ExportExample.{exports_can_come_back}
use Rattle.server_laws.proofs.premises_can_be_met.Goals as goal

pub returns : goal.returns
returns c = record { puts = drops_can_change.change; drops = drops_can_change; batches = batches_can_change; updates = updates_can_rest; undos = undos_can_restore; exports = exports_can_come_back }
