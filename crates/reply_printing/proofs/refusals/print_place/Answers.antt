use Rattle.reply_printing.proofs.RefusalTokens.{adds_none}
use Rattle.reply_printing.proofs.refusals.print_place.Goals as goal

pub returns-in-None : goal.returns-in-None
returns-in-None c = rw c.in-None.is adds_none
