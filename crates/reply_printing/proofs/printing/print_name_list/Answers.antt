use Rattle.std.proofs.Common.{◌∙◌, ◌∷◌, ◌++◌, [], take, ap, sym, arith}
use Rattle.plain_values.proofs.Common.{take_all}
use Rattle.json.specs.Token.{begin_array, end_array, string}
use Rattle.serde_json.specs.Data.{array}
use Rattle.server_specs.specs.Common.{names_data}
use Rattle.reply_printing.specs.Printing.{data_tokens}
use Rattle.json_text.proofs.Tokens.{follow}
use Rattle.reply_printing.proofs.Tokens.{adds_same, each_more, each_none, each_tokens, name_data, names_whole}
use Rattle.reply_printing.proofs.printing.print_name_list.Goals as goal

pub loop-name-init : goal.loop-name-init
loop-name-init c = adds_same _ (ap (λ ts. begin_array ∷ ts) (sym (each_none name_data))) c.in_ok-begin_array.ensures

pub loop-name-preserved : goal.loop-name-preserved
loop-name-preserved c =
    adds_same _
    (ap (λ name. (begin_array ∷ each_tokens name_data (take c.loop-name.name-index c.args.names.now)) ++ string name ∷ []) c.as_str.ensures
    ∙ ap (λ ts. begin_array ∷ ts) (sym (each_more name_data c.args.names.now c.loop-name.name-index c.name-item.result c.loop-name-test.true c.name-item.is)))
    (follow c.loop-name.invariant c.in_ok-string.ensures)

pub returns : goal.returns
returns c =
    adds_same (data_tokens (array (names_data c.args.names.now)))
    (ap (λ ns. begin_array ∷ (each_tokens name_data ns ++ end_array ∷ [])) (take_all c.loop-name.name-index c.args.names.now (omega arith))
    ∙ ap (λ ts. begin_array ∷ ts) (sym (names_whole c.args.names.now)))
    (follow c.loop-name.invariant c.in_ok-end_array.ensures)
