use Rattle.std.proofs.Common.{◌∷◌, take}
use Rattle.json.specs.Token.{begin_array}
use Rattle.server_specs.specs.Common.{edge_data}
use Rattle.reply_printing.specs.Printing.{Adds}
use Rattle.reply_printing.proofs.Tokens.{each_tokens}
use Rattle.reply_printing.proofs.describing.print_edge_list.Given as goal

abbrev pub invariant-loop-edge : goal.invariant-loop-edge
invariant-loop-edge l = Adds l.fn.out l.out (begin_array ∷ each_tokens edge_data (take l.edge-index l.edges))
