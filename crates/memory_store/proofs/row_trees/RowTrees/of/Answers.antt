use Rattle.std.proofs.Common.{◌∙◌, sym}
use Rattle.std.specs.FinMap as finmap
use Rattle.memory_store.proofs.ByTable.{one_further}
use Rattle.memory_store.proofs.row_trees.RowTrees.of.Goals as goal

pub loop-kept-preserved : goal.loop-kept-preserved
loop-kept-preserved c =
    let tables = c.args.tables.now in
    let i = c.loop-kept.kept-index in
    let kept = c.kept-item.result in
    c.in_ok-put.ensures ∙ (λ k. finmap.insert (c.loop-kept.invariant k) kept.table ((c.in_ok-tree.ensures ∙ c.in_ok-copy.ensures) k))
    ∙ sym (one_further tables i kept c.requires c.loop-kept-test.true c.kept-item.is)
