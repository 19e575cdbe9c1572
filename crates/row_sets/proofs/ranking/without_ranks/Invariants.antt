use Rattle.std.proofs.Common.{◌≡◌, ◌++◌, map}
use Rattle.plain_values.proofs.Common.{into_iter_items}
use Rattle.row_sets.specs.Ranks.{row_of}
use Rattle.row_sets.proofs.ranking.without_ranks.Given as goal

abbrev pub invariant-loop-one : goal.invariant-loop-one
invariant-loop-one l = record {
  seam : l.fn.ranked.items ≡ l.yielded ++ into_iter_items l.one-iterator;
  so_far : l.rows.items ≡ map row_of l.yielded;
}
