use Rattle.std.proofs.Common.{◌∙◌, ◌∷◌, ◌++◌, [], ap, sym, arith}
use Rattle.plain_values.proofs.Common.{take_all}
use Rattle.json.specs.Token.{begin_array, end_array}
use Rattle.serde_json.specs.Data.{array}
use Rattle.lens_pred.specs.View.{predicate_view}
use Rattle.server_specs.specs.Common.{conjuncts_data}
use Rattle.reply_printing.specs.Printing.{data_tokens}
use Rattle.json_text.proofs.Tokens.{follow}
use Rattle.reply_printing.proofs.Tokens.{adds_same, conjunct_data, conjuncts_whole, each_more, each_none, each_tokens}
use Rattle.reply_printing.proofs.describing.print_conjunct_list.Goals as goal

pub loop-conjunct-init : goal.loop-conjunct-init
loop-conjunct-init c = adds_same _ (ap (λ ts. begin_array ∷ ts) (sym (each_none conjunct_data))) c.in_ok-begin_array.ensures

pub loop-conjunct-preserved : goal.loop-conjunct-preserved
loop-conjunct-preserved c =
    adds_same _
    (ap (λ ts. begin_array ∷ ts) (sym (each_more conjunct_data c.args.conjuncts.now c.loop-conjunct.conjunct-index c.conjunct-item.result c.loop-conjunct-test.true c.conjunct-item.is)))
    (follow c.loop-conjunct.invariant c.in_ok-print_conjunct.ensures)

pub returns : goal.returns
returns c =
    adds_same (data_tokens (array (conjuncts_data (predicate_view c.args.conjuncts.now))))
    (ap (λ ys. begin_array ∷ (each_tokens conjunct_data ys ++ end_array ∷ [])) (take_all c.loop-conjunct.conjunct-index c.args.conjuncts.now (omega arith))
    ∙ ap (λ ts. begin_array ∷ ts) (sym (conjuncts_whole c.args.conjuncts.now)))
    (follow c.loop-conjunct.invariant c.in_ok-end_array.ensures)
