use Rattle.std.proofs.Common.{◌∙◌, ◌∷◌, ◌++◌, [], take, ap, sym, arith}
use Rattle.plain_values.proofs.Common.{take_all}
use Rattle.std.specs.FinMap as finmap
use Rattle.json.specs.Token.{begin_object, end_object, key}
use Rattle.serde_json.specs.Data.{object}
use Rattle.server_specs.specs.Common.{columns_data}
use Rattle.reply_printing.specs.Printing.{data_tokens}
use Rattle.json_text.proofs.Tokens.{follow}
use Rattle.reply_printing.proofs.Tokens.{adds_same, columns_whole, kind_data, pairs_more, pairs_none, pairs_tokens, text_same}
use Rattle.reply_printing.proofs.describing.print_kinds.Goals as goal

pub loop-column-init : goal.loop-column-init
loop-column-init c = adds_same _ (ap (λ ts. begin_object ∷ ts) (sym (pairs_none kind_data))) c.in_ok-begin_object.ensures

pub loop-column-preserved : goal.loop-column-preserved
loop-column-preserved c =
    adds_same _
    (ap (λ name. (begin_object ∷ pairs_tokens kind_data (take c.loop-column.column-index c.pairs-column-items.result.now)) ++ key name ∷ data_tokens (kind_data c.column-item.result.1)) c.as_str.ensures
    ∙ ap (λ ts. begin_object ∷ ts) (sym (pairs_more kind_data c.pairs-column-items.result.now c.loop-column.column-index c.column-item.result c.loop-column-test.true c.column-item.is)))
    (follow c.loop-column.invariant (text_same c.kind_text.ensures c.in_ok-print_text.ensures))

pub returns : goal.returns
returns c =
    let all = take_all c.loop-column.column-index c.pairs-column-items.result.now (omega arith) ∙ c.pairs-column-items.ensures in
    adds_same (data_tokens (object (columns_data (finmap.entries c.args.columns.now))))
    (ap (λ ps. begin_object ∷ (pairs_tokens kind_data ps ++ end_object ∷ [])) all ∙ ap (λ ts. begin_object ∷ ts) (sym (columns_whole (finmap.entries c.args.columns.now))))
    (follow c.loop-column.invariant c.in_ok-end_object.ensures)
