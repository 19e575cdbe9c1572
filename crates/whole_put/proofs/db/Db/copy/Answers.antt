use Rattle.std.proofs.Common.{◌∙◌, ap}
use Rattle.std.specs.FinMap as finmap
use Rattle.whole_put.proofs.Tables.{seen_alike}
use Rattle.whole_put.proofs.db.Db.copy.Goals as goal

pub returns : goal.returns
returns c =
    ap finmap.from_entries (seen_alike (λ shared. shared.value) c.self.inside.tables.entries c.in_ok-clone.field-0.entries c.in_ok-clone.ensures.cases)
    ∙ c.self.view_is
