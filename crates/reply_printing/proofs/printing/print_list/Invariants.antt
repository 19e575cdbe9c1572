use Rattle.std.proofs.Common.{◌∷◌, take}
use Rattle.json.specs.Token.{begin_array}
use Rattle.reply_printing.specs.Printing.{Adds}
use Rattle.reply_printing.proofs.Tokens.{each_tokens, difference_data}
use Rattle.reply_printing.proofs.printing.print_list.Given as goal

abbrev pub invariant-loop-change : goal.invariant-loop-change
invariant-loop-change l = Adds l.fn.out l.out (begin_array ∷ each_tokens difference_data (take l.change-index l.changes))
