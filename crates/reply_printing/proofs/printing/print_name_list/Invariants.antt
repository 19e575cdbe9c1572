use Rattle.std.proofs.Common.{◌∷◌, take}
use Rattle.json.specs.Token.{begin_array}
use Rattle.reply_printing.specs.Printing.{Adds}
use Rattle.reply_printing.proofs.Tokens.{each_tokens, name_data}
use Rattle.reply_printing.proofs.printing.print_name_list.Given as goal

abbrev pub invariant-loop-name : goal.invariant-loop-name
invariant-loop-name l = Adds l.fn.out l.out (begin_array ∷ each_tokens name_data (take l.name-index l.names))
