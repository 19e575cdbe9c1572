use Rattle.std.proofs.Common.{◌≡◌, ◌∙◌, ap, sym}
use Rattle.std.specs.FinMap as finmap
use Rattle.lens_specs.specs.Common.{or_empty}
use Rattle.memory_store.proofs.ByTable.{looked_up, once_taken}
use Rattle.memory_store.proofs.row_trees.RowTrees.take.Goals as goal
use Rattle.memory_store.proofs.row_trees.RowTrees.take.Goals.{in-Some, in-None}

pub returns-clause-rows : goal.returns-clause-rows
returns-clause-rows c =
    let table = c.args.table.now in
    let found : c.remove.result ≡ finmap.get c.args.self.now table =
    c.remove.ensures.value ∙ looked_up c.self.inside.trees.entries table ∙ ap (λ T. finmap.get T table) c.self.view_is in
    elim c.match-remove.branch [
      | in-Some w ↦ w.result-is ∙ ap or_empty (sym w.in-Some.is ∙ found)
      | in-None w ↦ w.result-is ∙ w.new.ensures ∙ ap or_empty (sym w.in-None.is ∙ found)
    ]

pub returns-clause-others : goal.returns-clause-others
returns-clause-others c = λ rows.
    once_taken c.self.inside.trees.entries c.remove.new.self.entries c.args.table.now rows c.remove.ensures.updates.0
    ∙ ap (λ T. finmap.insert T c.args.table.now rows) c.self.view_is
