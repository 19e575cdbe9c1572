use Rattle.std.proofs.Common.{◌≡◌, take, false}
use Rattle.plain_values.proofs.Common.{list_any}
use Rattle.csv.specs.Records.{fields_of}
use Rattle.csv_specs.specs.Fields.{is_same}
use Rattle.view_csv.proofs.places.place_of.Given as goal

abbrev pub invariant-loop-place : goal.invariant-loop-place
invariant-loop-place l = list_any (is_same l.name) (take l.place (fields_of l.header)) ≡ false
