use Rattle.std.proofs.Common.{◌∙◌, ◌∷◌, ◌++◌, [], length, take, ap, sym, rules}
use Rattle.std.specs.FinMap as finmap
use Rattle.plain_values.proofs.Common.{zip_end, zip_turn, length_push}
use Rattle.json.specs.Token.{begin_object, end_object}
use Rattle.server_specs.specs.Common.{row_data, value_data}
use Rattle.reply_printing.specs.Printing.{data_tokens}
use Rattle.reply_printing.proofs.RowEntries.{entries_whole, entry_turn}
use Rattle.json_text.proofs.Tokens.{follow}
use Rattle.reply_printing.proofs.Tokens.{adds_same, pairs_more, pairs_none, pairs_tokens, pairs_whole}
use Rattle.reply_printing.proofs.printing.print_object.Goals as goal

pub loop-name-init : goal.loop-name-init
loop-name-init c = adds_same _ (ap (λ ts. begin_object ∷ ts) (sym (pairs_none value_data))) c.in_ok-begin_object.ensures

pub loop-name-preserved : goal.loop-name-preserved
loop-name-preserved c =
    let pairs = finmap.entries c.args.row.now in
    let xs = c.loop-name.yielded in
    let turn =
    zip_turn c.as_slice.result.now c.values.result.now xs c.into_iter-name-iterator.result c.loop-name.name-iterator c.next.new.self c.next.result
    (search rules) (search rules) c.loop-name.yielded_by (c.in-Some.name, c.in-Some.value) c.in-Some.is c.next.ensures.steps in
    let here =
    entry_turn c.args.row.now c.as_slice.result.now c.values.result.now (c.as_slice.ensures ∙ c.names.ensures) c.values.ensures (length xs) c.in-Some.name.now c.in-Some.value.now turn in
    adds_same _
    (ap (λ ts. begin_object ∷ ts)
    (sym (pairs_more value_data pairs (length xs) (c.in-Some.name.now, c.in-Some.value.now) here.0 here.1)
    ∙ ap (λ n. pairs_tokens value_data (take n pairs)) (sym (length_push xs (c.in-Some.name, c.in-Some.value)))))
    (follow c.loop-name.invariant (follow c.in_ok-name_key.ensures c.in_ok-print_value.ensures))

pub returns : goal.returns
returns c =
    let xs = c.loop-name.yielded in
    let ended =
    zip_end c.as_slice.result.now c.values.result.now xs c.into_iter-name-iterator.result c.loop-name.name-iterator c.next.new.self c.next.result
    (search rules) (search rules) c.loop-name.yielded_by c.in-None.is c.next.ensures.steps in
    let all = entries_whole c.args.row.now c.as_slice.result.now c.values.result.now (c.as_slice.ensures ∙ c.names.ensures) c.values.ensures (length xs) ended in
    adds_same (data_tokens (row_data c.args.row.now))
    (ap (λ ps. begin_object ∷ (pairs_tokens value_data ps ++ end_object ∷ [])) all ∙ ap (λ ts. begin_object ∷ ts) (sym (pairs_whole (finmap.entries c.args.row.now))))
    (follow c.loop-name.invariant c.in_ok-end_object.ensures)
