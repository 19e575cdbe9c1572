use Rattle.std.proofs.Common.{◌∷◌, length, take}
use Rattle.std.specs.FinMap as finmap
use Rattle.json.specs.Token.{begin_object}
use Rattle.server_specs.specs.Common.{value_data}
use Rattle.reply_printing.specs.Printing.{Adds}
use Rattle.reply_printing.proofs.Tokens.{pairs_tokens}
use Rattle.reply_printing.proofs.printing.print_object.Given as goal

abbrev pub invariant-loop-name : goal.invariant-loop-name
invariant-loop-name l = Adds l.fn.out l.out (begin_object ∷ pairs_tokens value_data (take (length l.yielded) (finmap.entries l.row)))
