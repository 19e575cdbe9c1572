use Rattle.std.proofs.Common.{◌∙◌}
use Rattle.plain_values.proofs.Common.{list_all, slice_get, same_value}
use Rattle.view_reading.proofs.PairParts.{same_at_is}
use Rattle.view_reading.proofs.joining.Index.are_alike.Goals as goal

pub returns : goal.returns
returns c = λ U at mine other.
    c.same_at.ensures
    ∙ (λ i. list_all (λ p. same_value (slice_get (c.values.ensures i) p) (slice_get (c.values-2.ensures i) p)) (c.deref.ensures.value i))
    ∙ same_at_is c.args.self.now.cols U c.args.row.now c.args.other.now mine other c.args.self.now.places.items at
