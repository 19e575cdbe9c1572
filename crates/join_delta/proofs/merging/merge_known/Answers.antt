use Rattle.std.proofs.Common.{arith, rules}
use Rattle.join_delta.proofs.NoRows.{all_there}
use Rattle.join_delta.proofs.merging.merge_known.Goals as goal

pub returns : goal.returns
returns g c =
    let F = c.args.source.now.tree.now in
    let M = (g.K.Look.relation c.args.source.now.look.now).rows in
    record {
      change = all_there F M c.args.rows.now c.empty-remove.result c.empty-add.result c.requires.can.meets (c.requires.there (search rules)) c.empty-add.ensures c.empty-remove.ensures;
      looks = λ n w. omega arith;
      tree = c.edges-edges.ensures.tree;
    }
