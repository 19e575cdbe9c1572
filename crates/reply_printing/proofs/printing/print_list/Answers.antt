use Rattle.std.proofs.Common.{◌∙◌, ◌∷◌, ◌++◌, [], ap, map, sym, arith}
use Rattle.plain_values.proofs.Common.{take_all}
use Rattle.json.specs.Token.{begin_array, end_array}
use Rattle.serde_json.specs.Data.{array}
use Rattle.server_specs.specs.Common.{changes_data}
use Rattle.signed_delta.specs.Tables.{table_delta}
use Rattle.reply_printing.specs.Printing.{data_tokens}
use Rattle.json_text.proofs.Tokens.{follow}
use Rattle.reply_printing.proofs.Tokens.{adds_same, each_more, each_none, each_tokens, difference_data, changes_whole}
use Rattle.reply_printing.proofs.printing.print_list.Goals as goal

pub loop-change-init : goal.loop-change-init
loop-change-init c = adds_same _ (ap (λ ts. begin_array ∷ ts) (sym (each_none difference_data))) c.in_ok-begin_array.ensures

pub loop-change-preserved : goal.loop-change-preserved
loop-change-preserved c =
    adds_same _
    (ap (λ ts. begin_array ∷ ts) (sym (each_more difference_data c.args.changes.now c.loop-change.change-index c.change-item.result c.loop-change-test.true c.change-item.is)))
    (follow c.loop-change.invariant c.in_ok-print_change.ensures)

pub returns : goal.returns
returns c =
    adds_same (data_tokens (array (changes_data (map table_delta c.args.changes.now))))
    (ap (λ cs. begin_array ∷ (each_tokens difference_data cs ++ end_array ∷ [])) (take_all c.loop-change.change-index c.args.changes.now (omega arith))
    ∙ ap (λ ts. begin_array ∷ ts) (sym (changes_whole c.args.changes.now)))
    (follow c.loop-change.invariant c.in_ok-end_array.ensures)
