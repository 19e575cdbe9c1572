use Rattle.std.proofs.Common.{◌∙◌}
use Rattle.plain_values.proofs.Common.{same_value}
use Rattle.lens_values.proofs.Cells.{copied}
use Rattle.view_reading.proofs.pasting.is_same_at.Goals as goal

pub returns : goal.returns
returns c =
    let own = copied c.get.result c.args.values.now c.args.place c.get.ensures.lookup.0 c.get.ensures.lookup.1 in
    let other = copied c.get-2.result c.args.others.now c.args.place c.get-2.ensures.lookup.0 c.get-2.ensures.lookup.1 in
    c.is_same.ensures ∙ (λ i. same_value (own i) (other i))
