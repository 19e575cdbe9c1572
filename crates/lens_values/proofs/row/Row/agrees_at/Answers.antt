use Rattle.std.proofs.Common.{◌∙◌}
use Rattle.plain_values.proofs.Common.{same_value, eq-value_cmp}
use Rattle.lens_values.proofs.row.Row.agrees_at.Goals as goal

pub returns-in-Some-Some : goal.returns-in-Some-Some
returns-in-Some-Some c = c.eq.ensures ∙ eq-value_cmp c.in-Some-Some.mine.now c.in-Some-Some.others.now ∙ (λ i. same_value (c.in-Some-Some.ensures i) (c.in-Some-Some.ensures' i))
