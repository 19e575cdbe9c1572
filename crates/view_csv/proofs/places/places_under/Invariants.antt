use Rattle.std.proofs.Common.{◌≡◌, take, length, map, true}
use Rattle.plain_values.proofs.Common.{list_all, list_any}
use Rattle.csv.specs.Records.{fields_of}
use Rattle.csv_specs.specs.Fields.{is_same}
use Rattle.csv_specs.specs.Sheets.{Record, value_under}
use Rattle.view_csv.specs.Places.{value_at}
use Rattle.view_csv.proofs.places.places_under.Given as goal

abbrev pub invariant-loop-column : goal.invariant-loop-column
invariant-loop-column l = record {
  values : (fields : Record) → map (value_under (fields_of l.header) fields) (take l.column-index l.pairs) ≡ map (value_at fields) l.places.items;
  names : list_all (λ c. list_any (is_same c.0) (fields_of l.header)) (take l.column-index l.pairs) ≡ true;
  as_many : length l.places.items ≡ l.column-index;
}
