use Rattle.std.proofs.Common.{◌∙◌}
use Rattle.std.specs.FinMap as finmap
use Rattle.whole_put.proofs.Tables.{seen_updated}
use Rattle.whole_put.proofs.db.Db.set.Goals as goal

pub returns-clause-ok : goal.returns-clause-ok
returns-clause-ok c =
    seen_updated (λ shared. shared.value) c.self.inside.tables.entries c.insert.new.self.entries c.args.table c.in_ok-shared.shared c.in_ok-insert.ensures.updates.0
    ∙ (λ i. finmap.insert (c.self.view_is i) c.args.table (c.in_ok-shared.ensures.ok i))
