use Rattle.std.proofs.Common.{ap, ◌∙◌}
use Rattle.lens_values.proofs.Cells.{values_are}
use Rattle.lens_values.proofs.row.Row.values.Goals as goal

pub returns : goal.returns
returns c = c.as_slice.ensures.value ∙ ap (λ cells. cells.values.items) c.deref.ensures ∙ values_are _ _ _ c.self.invariant c.self.view_is
