use Rattle.std.proofs.Common.{◌∙◌, ap, Some}
use Rattle.plain_values.proofs.Common.{same_value, eq-value_cmp}
use Rattle.find_rows.proofs.finding.has_value.Goals as goal

pub returns-in-Some : goal.returns-in-Some
returns-in-Some c = c.eq.ensures ∙ eq-value_cmp c.args.value.now c.in-Some.own.now ∙ ap (same_value (Some c.args.value.now)) c.in-Some.ensures
