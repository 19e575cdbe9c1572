use Rattle.std.proofs.Common.{◌∷◌, ap}
use Rattle.json_text.proofs.Tokens.{follow}
use Rattle.server_specs.specs.Common.{names_data}
use Rattle.reply_printing.specs.Printing.{array, data_tokens, key}
use Rattle.reply_printing.proofs.Tokens.{adds_same}
use Rattle.reply_printing.proofs.printing.print_names.Goals as goal

pub returns : goal.returns
returns c =
    adds_same _ (ap (λ names. key c.args.name.now ∷ data_tokens (array (names_data names))) c.as_slice.ensures)
    (follow c.in_ok-key.ensures c.in_ok-print_name_list.ensures)
