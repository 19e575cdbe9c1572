use Rattle.std.proofs.Common.{◌≡◌, Some, take}
use Rattle.std.specs.FinMap as finmap
use Rattle.plain_values.proofs.Common.{filter_map}
use Rattle.lens_specs.specs.Common.{with_at}
use Rattle.drop_delta.proofs.editing.values_with.Given as goal

abbrev pub invariant-loop-name : goal.invariant-loop-name
invariant-loop-name l = l.found.items ≡ filter_map (finmap.get (with_at l.row l.col (Some l.value))) (take l.name-index l.name-items)
