use Rattle.lens_laws.proofs.SmallSorts.{table_has_keys, sort_is_small}
use Rattle.lens_laws.proofs.sorts_have_keys.Goals as goal

pub returns : goal.returns
returns c = record {
  tables = table_has_keys;
  small = sort_is_small;
}
