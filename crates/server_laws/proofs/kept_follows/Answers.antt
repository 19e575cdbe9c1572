use Rattle.server_laws.proofs.KeptStates.{puts_kept, definitions_kept, changes_kept}
use Rattle.server_laws.proofs.kept_follows.Goals as goal

pub returns : goal.returns
returns c = record { puts = puts_kept; definitions = definitions_kept; changes = changes_kept }
