use Rattle.std.proofs.Common.{rules, subst}
use Rattle.lens_laws.proofs.Common.{shown_is_of_sort}
use Rattle.lens_probe.specs.Viewed.{IsViewed}
use Rattle.lens_probe.proofs.view.View.read.Goals as goal

pub returns-clause-sort : goal.returns-clause-sort
returns-clause-sort g c =
    let is : IsViewed c.args.self.now = subst IsViewed c.self.view_is c.self.invariant.0 in
    shown_is_of_sort c.read_in.result c.args.self.now.lens c.args.self.now.tables.present.relations is.0 is.1.tables (search rules)
