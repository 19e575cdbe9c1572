use Rattle.std.proofs.Common.{◌∙◌, ap}
use Rattle.std.specs.FinMap as finmap
use Rattle.memory_store.proofs.ByTable.{updated}
use Rattle.memory_store.proofs.row_trees.RowTrees.put.Goals as goal

pub returns : goal.returns
returns c =
    updated c.self.inside.trees.entries c.insert.new.self.entries c.args.table c.args.tree c.in_ok-_old.ensures.updates.0
    ∙ ap (λ T. finmap.insert T c.args.table c.args.tree) c.self.view_is
