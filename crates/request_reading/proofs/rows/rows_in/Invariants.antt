use Rattle.std.proofs.Common.{◌≡◌, ◌++◌, Ok}
use Rattle.plain_values.proofs.Common.{into_iter_items}
use Rattle.borrowed_json.specs.Meaning.{items_data}
use Rattle.server_specs.specs.Sending as spec
use Rattle.request_reading.proofs.rows.rows_in.Given as goal

abbrev pub invariant-loop-item : goal.invariant-loop-item
invariant-loop-item l = record {
  seam : l.fn.items.items ≡ l.yielded ++ into_iter_items l.item-iterator;
  so_far : spec.rows_in l.columns (items_data l.yielded) ≡ Ok l.rows.items;
}
