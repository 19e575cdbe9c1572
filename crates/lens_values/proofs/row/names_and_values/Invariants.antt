use Rattle.std.proofs.Common.{◌≡◌, ◌++◌}
use Rattle.plain_values.proofs.Common.{into_iter_items, keys_of, values_of}
use Rattle.lens_values.proofs.row.names_and_values.Given as goal

abbrev pub invariant-loop-name : goal.invariant-loop-name
invariant-loop-name l = record {
  seam : l.fn.pairs.items ≡ l.yielded ++ into_iter_items l.name-iterator;
  names : l.names.items ≡ keys_of l.yielded;
  values : l.values.items ≡ values_of l.yielded;
}
