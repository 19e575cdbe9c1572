use Rattle.std.proofs.Common.{◌∙◌, ◌∷◌, ◌++◌, [], ap, sym, arith}
use Rattle.plain_values.proofs.Common.{take_all}
use Rattle.json.specs.Token.{begin_array, end_array}
use Rattle.serde_json.specs.Data.{array}
use Rattle.server_specs.specs.Common.{edge_data, edges_data}
use Rattle.reply_printing.specs.Printing.{data_tokens}
use Rattle.json_text.proofs.Tokens.{follow}
use Rattle.reply_printing.proofs.Tokens.{adds_same, each_more, each_none, each_tokens, edges_whole}
use Rattle.reply_printing.proofs.describing.print_edge_list.Goals as goal

pub loop-edge-init : goal.loop-edge-init
loop-edge-init c = adds_same _ (ap (λ ts. begin_array ∷ ts) (sym (each_none edge_data))) c.in_ok-begin_array.ensures

pub loop-edge-preserved : goal.loop-edge-preserved
loop-edge-preserved c =
    adds_same _
    (ap (λ ts. begin_array ∷ ts) (sym (each_more edge_data c.args.edges.now c.loop-edge.edge-index c.edge-item.result c.loop-edge-test.true c.edge-item.is)))
    (follow c.loop-edge.invariant c.in_ok-print_sides.ensures)

pub returns : goal.returns
returns c =
    adds_same (data_tokens (array (edges_data c.args.edges.now)))
    (ap (λ ys. begin_array ∷ (each_tokens edge_data ys ++ end_array ∷ [])) (take_all c.loop-edge.edge-index c.args.edges.now (omega arith))
    ∙ ap (λ ts. begin_array ∷ ts) (sym (edges_whole c.args.edges.now)))
    (follow c.loop-edge.invariant c.in_ok-end_array.ensures)
