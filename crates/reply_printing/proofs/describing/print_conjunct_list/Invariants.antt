use Rattle.std.proofs.Common.{◌∷◌, take}
use Rattle.json.specs.Token.{begin_array}
use Rattle.reply_printing.specs.Printing.{Adds}
use Rattle.reply_printing.proofs.Tokens.{each_tokens, conjunct_data}
use Rattle.reply_printing.proofs.describing.print_conjunct_list.Given as goal

abbrev pub invariant-loop-conjunct : goal.invariant-loop-conjunct
invariant-loop-conjunct l = Adds l.fn.out l.out (begin_array ∷ each_tokens conjunct_data (take l.conjunct-index l.conjuncts))
