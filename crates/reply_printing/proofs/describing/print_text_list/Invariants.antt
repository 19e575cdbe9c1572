use Rattle.std.proofs.Common.{◌∷◌, take}
use Rattle.json.specs.Token.{begin_array}
use Rattle.serde_json.specs.Data.{string}
use Rattle.reply_printing.specs.Printing.{Adds}
use Rattle.reply_printing.proofs.Tokens.{each_tokens}
use Rattle.reply_printing.proofs.describing.print_text_list.Given as goal

abbrev pub invariant-loop-text : goal.invariant-loop-text
invariant-loop-text l = Adds l.fn.out l.out (begin_array ∷ each_tokens string (take l.text-index l.texts))
