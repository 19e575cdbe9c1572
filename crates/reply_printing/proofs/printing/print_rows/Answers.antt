use Rattle.std.proofs.Common.{◌∙◌, ◌∷◌, ◌++◌, [], ap, sym, arith}
use Rattle.plain_values.proofs.Common.{take_all}
use Rattle.json.specs.Token.{begin_array, end_array}
use Rattle.serde_json.specs.Data.{array}
use Rattle.plain_values.specs.SortedSet as set
use Rattle.lens_specs.specs.Common.{Rows}
use Rattle.server_specs.specs.Common.{row_data, rows_data}
use Rattle.reply_printing.specs.Printing.{data_tokens}
use Rattle.json_text.proofs.Tokens.{follow}
use Rattle.reply_printing.proofs.Tokens.{adds_same, each_more, each_none, each_tokens, rows_whole}
use Rattle.reply_printing.proofs.printing.print_rows.Goals as goal

pub loop-row-init : goal.loop-row-init
loop-row-init c = adds_same _ (ap (λ ts. begin_array ∷ ts) (sym (each_none row_data))) c.in_ok-begin_array.ensures

pub loop-row-preserved : goal.loop-row-preserved
loop-row-preserved c =
    adds_same _ (ap (λ ts. begin_array ∷ ts) (sym (each_more row_data c.rows-row-items.result.now c.loop-row.row-index c.row-item.result c.loop-row-test.true c.row-item.is)))
    (follow c.loop-row.invariant c.in_ok-print_object.ensures)

pub returns : goal.returns
returns c =
    let all = take_all c.loop-row.row-index c.rows-row-items.result.now (omega arith) ∙ c.rows-row-items.ensures in
    let rows : Rows = c.args.rows.now in
    adds_same (data_tokens (array (rows_data (set.items rows))))
    (ap (λ rs. begin_array ∷ (each_tokens row_data rs ++ end_array ∷ [])) all ∙ ap (λ ts. begin_array ∷ ts) (sym (rows_whole (set.items rows))))
    (follow c.loop-row.invariant c.in_ok-end_array.ensures)
