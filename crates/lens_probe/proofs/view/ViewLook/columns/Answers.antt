use Rattle.std.proofs.Common.{◌≡◌, ◌∙◌, ap, subst}
use Rattle.lens_specs.specs.Common.{sort_of, Sort}
use Rattle.lens_laws.proofs.Common.{get_sort}
use Rattle.lens_probe.specs.Viewed.{IsViewed, Viewed}
use Rattle.lens_probe.proofs.Sizes.{some_within, viewed_gives}
use Rattle.lens_probe.proofs.view.ViewLook.columns.Goals as goal

pub returns-clause-columns : goal.returns-clause-columns
returns-clause-columns c =
    subst (λ (v : Viewed). c.cols.result.now ≡ (sort_of v.lens).columns) c.self.view_is
    (c.cols.ensures.value ∙ ap (λ (s : Sort). s.columns) c.self.invariant.1)

pub returns-clause-fit : goal.returns-clause-fit
returns-clause-fit c =
    let is : IsViewed c.args.self.now = subst IsViewed c.self.view_is c.self.invariant.0 in
    (get_sort c.args.self.now.lens c.args.self.now.tables.present.relations is.0 is.1.tables).columns

pub returns-clause-some : goal.returns-clause-some
returns-clause-some c = some_within c.args.self.now

pub returns-clause-gives : goal.returns-clause-gives
returns-clause-gives c = λ n within. viewed_gives c.args.self.now n (subst IsViewed c.self.view_is c.self.invariant.0) within
