use Rattle.json_text.proofs.Tokens.{follow}
use Rattle.reply_printing.proofs.printing.print_set.Goals as goal

pub returns : goal.returns
returns c = follow c.in_ok-key.ensures c.in_ok-print_rows.ensures
