use Rattle.sqlite_keeper.proofs.InMemory.{keeps_in_memory}
use Rattle.sqlite_keeper.proofs.laws.memory_keeps_the_last_state.Goals as goal

pub returns : goal.returns
returns c = keeps_in_memory
