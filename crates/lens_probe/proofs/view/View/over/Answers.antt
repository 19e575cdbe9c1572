use Rattle.std.proofs.Common.{◌∙◌, ap, subst}
use Rattle.lens_specs.specs.Common.{get}
use Rattle.lens_probe.specs.NearRows.{AreKnown}
use Rattle.lens_probe.proofs.NearRows.{join_of_source}
use Rattle.lens_probe.proofs.Viewing.{source_asks}
use Rattle.lens_probe.specs.Viewed.{Viewed, only_source, viewed}
use Rattle.lens_probe.proofs.view.View.over.Goals as goal

pub new-requires-clause-asks : goal.new-requires-clause-asks
new-requires-clause-asks c =
    source_asks (viewed c.self.inside.lens.now c.self.inside.handed.sets c.self.inside.tables.now) c.args.source.now c.to_first.result.sets c.self.invariant.0
    (ap (λ (v : Viewed). only_source v.lens) c.self.view_is ∙ c.requires) c.to_first.ensures

pub new-requires-clause-near : goal.new-requires-clause-near
new-requires-clause-near c =
    subst (λ M. AreKnown (get M c.self.inside.tables.now.present.relations) c.self.inside.near.now)
    (join_of_source c.self.inside.lens.now c.args.source.now (ap (λ (v : Viewed). only_source v.lens) c.self.view_is ∙ c.requires)) c.self.invariant.2
