use Rattle.std.proofs.Common.{rules}
use Rattle.json_text.proofs.Tokens.{follow}
use Rattle.reply_printing.proofs.Tokens.{adds_same}
use Rattle.reply_printing.proofs.printing.print_sides.Goals as goal

pub returns : goal.returns
returns c =
    let parts = follow c.in_ok-begin_object.ensures (follow c.in_ok-print_names.ensures (follow c.in_ok-print_names-2.ensures c.in_ok-end_object.ensures)) in
    adds_same _ (search rules) parts
