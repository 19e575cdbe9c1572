use Rattle.server_laws.proofs.Sessions.{complete, counts_stay, faults_counted, read_otherwise, replies_are_answers}
use Rattle.server_laws.proofs.sessions_are_complete.Goals as goal

pub returns : goal.returns
returns c = record { answers = replies_are_answers; complete = complete; faults = faults_counted; failures = read_otherwise; still = counts_stay }
