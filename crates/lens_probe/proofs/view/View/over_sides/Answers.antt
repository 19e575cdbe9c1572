use Rattle.std.proofs.Common.{◌∙◌, ap}
use Rattle.lens_probe.proofs.Viewing.{left_asks, right_asks}
use Rattle.lens_probe.specs.Viewed.{Viewed, both_sides, viewed}
use Rattle.lens_probe.proofs.view.View.over_sides.Goals as goal

pub new-over_left-requires-clause-asks : goal.new-over_left-requires-clause-asks
new-over_left-requires-clause-asks c =
    left_asks (viewed c.self.inside.lens.now c.self.inside.handed.sets c.self.inside.tables.now) c.args.left.now c.args.right.now c.to_first.result.sets c.self.invariant.0
    (ap (λ (v : Viewed). both_sides v.lens) c.self.view_is ∙ c.requires) c.to_first.ensures

pub new-over_right-requires-clause-asks : goal.new-over_right-requires-clause-asks
new-over_right-requires-clause-asks c =
    right_asks (viewed c.self.inside.lens.now c.self.inside.handed.sets c.self.inside.tables.now) c.args.left.now c.args.right.now c.to_second.result.sets c.self.invariant.0
    (ap (λ (v : Viewed). both_sides v.lens) c.self.view_is ∙ c.requires) c.to_second.ensures
