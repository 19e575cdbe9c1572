use Rattle.std.proofs.Common.{◌∙◌, ap, sym}
use Rattle.lens_values.proofs.Cells.{copied}
use Rattle.view_reading.specs.Pasting.{value_at}
use Rattle.view_reading.proofs.pasting.value_at.Goals as goal

pub returns-in-Left : goal.returns-in-Left
returns-in-Left c =
    copied c.get.result c.args.left.now c.in-Left.place c.get.ensures.lookup.0 c.get.ensures.lookup.1 ∙ ap (value_at c.args.left.now c.args.right.now) (sym c.in-Left.is)

pub returns-in-Right : goal.returns-in-Right
returns-in-Right c =
    copied c.get-in-Right.result c.args.right.now c.in-Right.place c.get-in-Right.ensures.lookup.0 c.get-in-Right.ensures.lookup.1 ∙ ap (value_at c.args.left.now c.args.right.now) (sym c.in-Right.is)
