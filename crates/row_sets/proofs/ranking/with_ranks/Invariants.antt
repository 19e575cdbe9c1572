use Rattle.std.proofs.Common.{◌≡◌, ◌++◌, map}
use Rattle.plain_values.proofs.Common.{into_iter_items}
use Rattle.row_sets.specs.Ranks.{row_of}
use Rattle.row_sets.proofs.ranking.with_ranks.Given as goal

abbrev pub invariant-loop-row : goal.invariant-loop-row
invariant-loop-row l = record {
  seam : l.fn.rows.items ≡ l.yielded ++ into_iter_items l.row-iterator;
  so_far : map row_of l.ranked.items ≡ l.yielded;
}
