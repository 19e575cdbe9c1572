use Rattle.server_laws.proofs.Recalled.{nothing_told, undo_restores, undone_at_once}
use Rattle.server_laws.proofs.changes_can_be_undone.Goals as goal

pub returns : goal.returns
returns c = record { nothing = nothing_told; once = undone_at_once; restores = undo_restores }
