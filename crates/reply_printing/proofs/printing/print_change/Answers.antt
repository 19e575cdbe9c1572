use Rattle.json_text.proofs.Tokens.{follow}
use Rattle.reply_printing.proofs.Tokens.{set_same}
use Rattle.reply_printing.proofs.printing.print_change.Goals as goal

pub returns : goal.returns
returns c =
    follow c.in_ok-begin_object.ensures
    (follow (set_same c.add.ensures c.in_ok-print_set.ensures)
    (follow (set_same c.remove.ensures c.in_ok-print_set-2.ensures)
    (follow c.in_ok-print_name.ensures c.in_ok-end_object.ensures)))
