use Rattle.std.proofs.Common.{◌≡◌, length, take, Ok}
use Rattle.plain_values.proofs.Common.{zip, keys_of}
use Rattle.borrowed_json.specs.Meaning.{members_data}
use Rattle.server_specs.specs.Sending as spec
use Rattle.request_reading.proofs.rows.values_in.Given as goal

abbrev pub invariant-loop-column : goal.invariant-loop-column
invariant-loop-column l = record {
  as_many : l.column-index ≡ length l.values.items;
  so_far : spec.pairs_in (take l.column-index l.columns) (members_data l.members) ≡ Ok (zip (keys_of (take l.column-index l.columns)) l.values.items);
}
