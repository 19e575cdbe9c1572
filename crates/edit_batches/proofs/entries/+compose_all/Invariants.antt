use Rattle.std.proofs.Common.{length}
use Rattle.edit_batches.proofs.entries.+compose_all.Given as goal

abbrev pub decreases-compose_all : goal.decreases-compose_all
decreases-compose_all l = length l.entries.now
