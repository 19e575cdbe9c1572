use Rattle.std.proofs.Common.{◌∙◌, ap}
use Rattle.std.specs.FinMap as finmap
use Rattle.lens_laws.proofs.Common.{updated}
use Rattle.lens_chain.proofs.changes.Changes.set.Goals as goal

pub returns : goal.returns
returns c =
    updated c.self.inside.deltas.entries c.insert.new.self.entries c.args.table c.args.delta c.in_ok-insert.ensures.updates.0
    ∙ ap (λ m. finmap.insert m c.args.table c.args.delta) c.self.view_is
