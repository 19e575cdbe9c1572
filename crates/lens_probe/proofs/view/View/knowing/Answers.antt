use Rattle.std.proofs.Common.{◌∙◌, ap, subst, sym}
use Rattle.lens_probe.specs.Viewed.{AreNear, CanAsk, Viewed, viewed}
use Rattle.lens_probe.proofs.view.View.knowing.Goals as goal

pub new-requires-clause-asks : goal.new-requires-clause-asks
new-requires-clause-asks c = subst (λ K. CanAsk c.self.inside.lens.now K c.self.inside.tables.now.present) (sym c.copy.ensures) c.self.invariant.0.1

pub new-requires-clause-near : goal.new-requires-clause-near
new-requires-clause-near c = subst (λ (v : Viewed). AreNear v c.args.near.now) (sym c.self.view_is) c.requires

pub returns : goal.returns
returns c = c.new.ensures ∙ ap (λ K. viewed c.self.inside.lens.now K c.self.inside.tables.now) c.copy.ensures ∙ c.self.view_is
