use Rattle.std.proofs.Common.{ap, sym, ◌∙◌, option_map}
use Rattle.plain_values.proofs.Common.{result_ok}
use Rattle.plain_values.specs.declared.value.Value.TheVariants as value
use Rattle.view_csv.proofs.Numbers.{no_text, text_is}
use Rattle.view_csv.proofs.fields.text_value.Goals as goal

pub returns-in-Ok-new : goal.returns-in-Ok-new
returns-in-Ok-new c = ap (option_map value.Text) (sym (text_is c.args.field.now c.in-Ok.text.now c.in-Ok.ensures.cases.0 c.in-Ok.ensures.cases.1 ∙ ap result_ok c.in-Ok-new.ensures))

pub returns-in-Err : goal.returns-in-Err
returns-in-Err c = ap (option_map value.Text) (no_text c.args.field.now c.in-Err.ensures.cases.0)
