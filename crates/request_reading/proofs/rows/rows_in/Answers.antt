use Rattle.std.proofs.Common.{◌≡◌, ◌++◌, ◌∙◌, ◌∷◌, [], Ok, Err, ap, sym, length, append_assoc, rules}
use Rattle.plain_values.proofs.Common.{into_iter_items}
use Rattle.borrowed_json.specs.Meaning.{value_data, items_data}
use Rattle.server_specs.specs.Sending as spec
use Rattle.request_reading.proofs.Faults.{told_at}
use Rattle.request_reading.proofs.Sending.{rows_push, rows_bad}
use Rattle.request_reading.proofs.rows.rows_in.Goals as goal

pub loop-item-preserved : goal.loop-item-preserved
loop-item-preserved c = record {
  seam =
      c.loop-item.invariant.seam ∙ ap (λ l. c.loop-item.yielded ++ l) c.in-Some.ensures.steps.0
      ∙ sym (append_assoc c.loop-item.yielded (c.in-Some.item ∷ []) (into_iter_items c.next.new.self));
  so_far =
      rows_push c.args.columns.now c.loop-item.yielded c.in-Some.item c.in-Ok.row c.in-Ok.ensures c.loop-item.rows.items c.loop-item.invariant.so_far
      ∙ ap Ok (sym c.in_ok-push-in-Ok.ensures.items);
}

pub returns-in-Err : goal.returns-in-Err
returns-in-Err c =
    let rest = into_iter_items c.next.new.self in
    let items : c.args.items.items ≡ c.loop-item.yielded ++ c.in-Some.item ∷ rest =
    c.loop-item.invariant.seam ∙ ap (λ l. c.loop-item.yielded ++ l) c.in-Some.ensures.steps.0 in
    let place : length c.loop-item.rows.items ≡ c.len-in-Err.result = search rules in
    told_at c.len-in-Err.result c.at.result c.in-Err.fault (spec.row_in c.args.columns.now (value_data c.in-Some.item)) (spec.rows_in c.args.columns.now (items_data c.args.items.items)) c.at.ensures c.in-Err.ensures
    (λ name bad. ap (λ l. spec.rows_in c.args.columns.now (items_data l)) items
    ∙ rows_bad c.args.columns.now c.loop-item.yielded c.in-Some.item rest name bad c.loop-item.rows.items c.loop-item.invariant.so_far
    ∙ ap (λ n. Err (n, name)) place)
