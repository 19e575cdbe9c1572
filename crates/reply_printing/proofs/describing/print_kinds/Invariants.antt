use Rattle.std.proofs.Common.{◌∷◌, take}
use Rattle.json.specs.Token.{begin_object}
use Rattle.reply_printing.specs.Printing.{Adds}
use Rattle.reply_printing.proofs.Tokens.{kind_data, pairs_tokens}
use Rattle.reply_printing.proofs.describing.print_kinds.Given as goal

abbrev pub invariant-loop-column : goal.invariant-loop-column
invariant-loop-column l = Adds l.fn.out l.out (begin_object ∷ pairs_tokens kind_data (take l.column-index l.column-items))
