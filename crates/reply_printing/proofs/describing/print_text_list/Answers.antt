use Rattle.std.proofs.Common.{◌∙◌, ◌∷◌, ◌++◌, [], take, ap, sym, arith}
use Rattle.plain_values.proofs.Common.{take_all}
use Rattle.json.specs.Token as token
use Rattle.json.specs.Token.{begin_array, end_array}
use Rattle.serde_json.specs.Data.{array, string}
use Rattle.server_specs.specs.Common.{texts_data}
use Rattle.reply_printing.specs.Printing.{data_tokens}
use Rattle.json_text.proofs.Tokens.{follow}
use Rattle.reply_printing.proofs.Tokens.{adds_same, each_more, each_none, each_tokens, texts_whole}
use Rattle.reply_printing.proofs.describing.print_text_list.Goals as goal

pub loop-text-init : goal.loop-text-init
loop-text-init c = adds_same _ (ap (λ ts. begin_array ∷ ts) (sym (each_none string))) c.in_ok-begin_array.ensures

pub loop-text-preserved : goal.loop-text-preserved
loop-text-preserved c =
    adds_same _
    (ap (λ text. (begin_array ∷ each_tokens string (take c.loop-text.text-index c.args.texts.now)) ++ token.string text ∷ []) c.as_str.ensures
    ∙ ap (λ ts. begin_array ∷ ts) (sym (each_more string c.args.texts.now c.loop-text.text-index c.text-item.result c.loop-text-test.true c.text-item.is)))
    (follow c.loop-text.invariant c.in_ok-string.ensures)

pub returns : goal.returns
returns c =
    adds_same (data_tokens (array (texts_data c.args.texts.now)))
    (ap (λ ys. begin_array ∷ (each_tokens string ys ++ end_array ∷ [])) (take_all c.loop-text.text-index c.args.texts.now (omega arith))
    ∙ ap (λ ts. begin_array ∷ ts) (sym (texts_whole c.args.texts.now)))
    (follow c.loop-text.invariant c.in_ok-end_array.ensures)
