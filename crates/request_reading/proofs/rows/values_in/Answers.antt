use Rattle.std.proofs.Common.{◌≡◌, ◌∙◌, sym, ap, subst, take, rules, Err}
use Rattle.std.specs.Bool.{OnTrue}
use Rattle.plain_values.proofs.Common.{zip, keys_of}
use Rattle.borrowed_json.specs.Meaning.{members_data}
use Rattle.request_reading.specs.SentRows.{names_sent}
use Rattle.request_reading.proofs.Beside.{last_here}
use Rattle.request_reading.proofs.Sending.{pairs_wrong, values_more}
use Rattle.request_reading.proofs.rows.values_in.Goals as goal

pub value_at-requires : goal.value_at-requires
value_at-requires c = λ is.
    let same : names_sent c.args.members.now ≡ keys_of c.args.columns.now =
    subst (λ b. OnTrue b (names_sent c.args.members.now ≡ keys_of c.args.columns.now)) is c.are_beside-beside.ensures in
    let place : c.len.result ≡ c.loop-column.column-index = search rules in
    last_here c.args.columns.now c.args.members.now c.loop-column.column-index c.len.result c.column-item.result c.requires same c.loop-column-test.true c.column-item.is place

pub returns-in-None-clause-finds : goal.returns-in-None-clause-finds
returns-in-None-clause-finds c =
    let i = c.loop-column.column-index in
    pairs_wrong (members_data c.args.members.now) c.args.columns.now i c.column-item.result c.loop-column-test.true c.column-item.is
    (sym c.in_ok-value.ensures ∙ c.in-None.is) (zip (keys_of (take i c.args.columns.now)) c.loop-column.values.items) c.loop-column.invariant.so_far ∙ ap Err (sym c.as_str.ensures)

pub loop-column-preserved : goal.loop-column-preserved
loop-column-preserved c = record {
  as_many = search rules;
  so_far =
      values_more (members_data c.args.members.now) c.args.columns.now c.loop-column.column-index c.column-item.result c.loop-column-test.true c.column-item.is
      c.in-Some.value (sym c.in_ok-value.ensures ∙ c.in-Some.is) c.loop-column.values.items c.loop-column.invariant.as_many c.loop-column.invariant.so_far c.push.new.self.items (search rules);
}
