use Rattle.std.proofs.Common.{◌≡◌, [], map, take, true}
use Rattle.plain_values.proofs.Common.{list_all, is_name}
use Rattle.csv.specs.Records.{fields_of, partial_of}
use Rattle.view_csv.proofs.writing.put_names.Given as goal

abbrev pub invariant-loop-column : goal.invariant-loop-column
invariant-loop-column l = record {
  fields : fields_of l.fields ≡ map (λ c. c.0) (take l.column-index l.column-items);
  names : list_all is_name (map (λ c. c.0) (take l.column-index l.column-items)) ≡ true;
  partial : partial_of l.fields ≡ [];
}
