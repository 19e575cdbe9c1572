use Rattle.std.proofs.Common.{◌≡◌, [], map, take, true}
use Rattle.plain_values.proofs.Common.{list_all}
use Rattle.csv.specs.Records.{fields_of, partial_of}
use Rattle.csv_specs.specs.Fields.{field_of}
use Rattle.csv_specs.specs.SheetLaws.{is_right}
use Rattle.view_csv.proofs.writing.put_values.Given as goal

abbrev pub invariant-loop-value : goal.invariant-loop-value
invariant-loop-value l = record {
  fields : fields_of l.fields ≡ map field_of (take l.value-index l.value-items);
  right : list_all is_right (take l.value-index l.value-items) ≡ true;
  partial : partial_of l.fields ≡ [];
}
