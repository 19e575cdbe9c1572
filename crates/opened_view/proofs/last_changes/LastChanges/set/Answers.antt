use Rattle.std.proofs.Common.{◌∙◌, ap}
use Rattle.std.specs.FinMap as finmap
use Rattle.lens_laws.proofs.Common.{updated}
use Rattle.opened_view.proofs.last_changes.LastChanges.set.Goals as goal

pub returns-clause-ok : goal.returns-clause-ok
returns-clause-ok c =
    updated c.self.inside.versions.entries c.insert.new.self.entries c.args.table.now c.args.version c.in_ok-insert.ensures.updates.0
    ∙ ap (λ last. finmap.insert last c.args.table.now c.args.version) c.self.view_is
