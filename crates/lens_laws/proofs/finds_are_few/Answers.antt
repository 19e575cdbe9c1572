use Rattle.lens_laws.proofs.Work.{fan_bounds, view_gives}
use Rattle.lens_laws.proofs.finds_are_few.Goals as goal

pub returns : goal.returns
returns c = record {
  fan = fan_bounds;
  view = view_gives;
}
