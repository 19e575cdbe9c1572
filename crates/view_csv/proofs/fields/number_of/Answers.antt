use Rattle.std.proofs.Common.{◌∙◌}
use Rattle.view_csv.proofs.Numbers.{has_some, no_number, parsed_field}
use Rattle.view_csv.proofs.fields.number_of.Goals as goal

pub returns-in-Ok : goal.returns-in-Ok
returns-in-Ok c =
    let some = has_some c.args.field.now c.is_empty.result c.is_empty.ensures c.if-is_empty.false in
    c.ok.ensures.value ∙ parsed_field c.args.field.now c.in-Ok.text.now c.parse.result c.in-Ok.ensures.cases.0 c.parse.ensures.value.0 some c.if-field-eq43.false

pub returns-in-Err : goal.returns-in-Err
returns-in-Err c = no_number c.args.field.now c.in-Err.ensures.cases.0
