use Rattle.plain_values.proofs.Common.{IfOk-weaker, eq_by_cmp, row_cmp}
use Rattle.row_sets.specs.Ranks.{row_of}
use Rattle.row_sets.proofs.Ranks.{moved_behind}
use Rattle.row_sets.proofs.ranking.by_rank.Goals as goal

pub returns : goal.returns
returns c =
    IfOk-weaker c.without_ranks.result _ _ (λ rows out row.
    moved_behind row_of (eq_by_cmp row_cmp row) c.args.rows.items c.in_ok-ranked.ranked.items c.sort.new.self.items rows.items c.in_ok-ranked.ensures c.sort.ensures.permutation out)
    c.without_ranks.ensures
