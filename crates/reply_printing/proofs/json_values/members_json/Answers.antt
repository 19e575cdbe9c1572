use Rattle.std.proofs.Common.{◌∙◌, ap, sym, length, take, rules}
use Rattle.std.specs.FinMap as finmap
use Rattle.plain_values.proofs.Common.{zip_turn, length_push, bytes_cmp, keys_rise}
use Rattle.serde_json.specs.Data.{put}
use Rattle.server_specs.specs.Common.{pairs_data}
use Rattle.reply_printing.proofs.RowEntries.{entry_turn}
use Rattle.reply_printing.proofs.RisingMembers.{put_more}
use Rattle.reply_printing.proofs.json_values.members_json.Goals as goal

pub loop-name-preserved : goal.loop-name-preserved
loop-name-preserved c =
    let pairs = finmap.entries c.args.row.now in
    let xs = c.loop-name.yielded in
    let turn =
    zip_turn c.as_slice.result.now c.values.result.now xs c.into_iter-name-iterator.result c.loop-name.name-iterator c.next.new.self c.next.result
    (search rules) (search rules) c.loop-name.yielded_by (c.in-Some.name, c.in-Some.value) c.in-Some.is c.next.ensures.steps in
    let here =
    entry_turn c.args.row.now c.as_slice.result.now c.values.result.now (c.as_slice.ensures ∙ c.names.ensures) c.values.ensures (length xs) c.in-Some.name.now c.in-Some.value.now turn in
    c.in_ok-put.ensures.ok
    ∙ (λ i. put (c.as_str.ensures i) (c.in_ok-value.ensures i) (c.loop-name.invariant i))
    ∙ put_more pairs (length xs) (c.in-Some.name.now, c.in-Some.value.now) here.0 here.1 (keys_rise bytes_cmp c.args.row.now)
    ∙ ap (λ n. pairs_data (take n pairs)) (sym (length_push xs (c.in-Some.name, c.in-Some.value)))
