use Rattle.edit_batches.proofs.Moves.{composed_lead}
use Rattle.edit_batches.proofs.laws.composed_leads.Goals as goal

pub returns : goal.returns
returns c = λ ds es a b d first second. λ lead more. composed_lead ds es a b d lead more
