use Rattle.std.proofs.Common.{◌∙◌, sym, option_copied}
use Rattle.plain_values.proofs.Common.{same_value, eq-value_cmp}
use Rattle.view_reading.proofs.pasting.is_same.Goals as goal

pub returns-in-Some-Some : goal.returns-in-Some-Some
returns-in-Some-Some c =
    c.eq.ensures ∙ eq-value_cmp c.in-Some-Some.value.now c.in-Some-Some.other.now
    ∙ (λ i. same_value (option_copied (sym c.in-Some-Some.is-0 i)) (option_copied (sym c.in-Some-Some.is-1 i)))
