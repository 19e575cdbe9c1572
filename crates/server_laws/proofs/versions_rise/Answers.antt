use Rattle.server_laws.proofs.AnswerFacts.{said}
use Rattle.server_laws.proofs.Last.{last_answer}
use Rattle.server_laws.proofs.versions_rise.Goals as goal

pub returns : goal.returns
returns c = record { rises = λ s l. (said s l).rises; stays = λ s v l. (said s l).stays v; told = λ s l. (said s l).told; last = last_answer }
