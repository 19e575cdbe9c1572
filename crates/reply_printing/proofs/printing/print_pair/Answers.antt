use Rattle.json_text.proofs.Tokens.{follow}
use Rattle.reply_printing.proofs.printing.print_pair.Goals as goal

pub returns : goal.returns
returns c =
    follow c.in_ok-key.ensures (follow c.in_ok-begin_array.ensures (follow c.in_ok-print_object.ensures (follow c.in_ok-print_object-2.ensures c.in_ok-end_array.ensures)))
