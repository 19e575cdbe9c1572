use Rattle.std.proofs.Common.{◌≡◌, ◌++◌, map, Some}
use Rattle.plain_values.proofs.Common.{into_iter_items}
use Rattle.borrowed_json.specs.Meaning.{items_data}
use Rattle.server_specs.specs.Common.{each_edit}
use Rattle.request_reading.specs.Edits.{edit_view}
use Rattle.request_reading.proofs.batches.edits_of.Given as goal

abbrev pub invariant-loop-json : goal.invariant-loop-json
invariant-loop-json l = record {
  seam : l.fn.list.items ≡ l.yielded ++ into_iter_items l.json-iterator;
  so_far : each_edit (items_data l.yielded) ≡ Some (map edit_view l.edits.items);
}
