use Rattle.std.proofs.Common.{◌≡◌, take, length, Some}
use Rattle.csv.specs.Records.{fields_of}
use Rattle.view_csv.specs.Places.{values_at}
use Rattle.view_csv.proofs.places.values_of.Given as goal

abbrev pub invariant-loop-place : goal.invariant-loop-place
invariant-loop-place l = (values_at (take l.place-index l.places) (fields_of l.fields) ≡ Some l.values.items) × (length l.values.items ≡ l.place-index)
