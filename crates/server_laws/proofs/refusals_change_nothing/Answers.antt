use Rattle.server_laws.proofs.AnswerFacts.{said}
use Rattle.server_laws.proofs.refusals_change_nothing.Goals as goal

pub returns : goal.returns
returns c = record { state = λ s l. (said s l).refusal; questions = λ s l. (said s l).asked; failure = λ s l. (said s l).failure }
