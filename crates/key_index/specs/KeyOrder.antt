-- The order of keys is total.
use Rattle.std.specs.Cmp.{IsTotalOrder, nat_cmp_total, on_total, then_total}
use Rattle.std.specs.Cmp.Lexicographic.{lists_total, options_total}
use Rattle.plain_values.specs.ValueOrder.{value_cmp_total}
use Rattle.key_index.specs.Key.{cells_cmp, hash_key, key_cmp}

-- the order by cells is total
pub cells_cmp_total : IsTotalOrder cells_cmp
cells_cmp_total = lists_total (options_total value_cmp_total)

pub key_cmp_total : IsTotalOrder key_cmp
key_cmp_total = then_total (on_total hash_key nat_cmp_total) cells_cmp_total
