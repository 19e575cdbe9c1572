use Rattle.std.proofs.Common.{◌∙◌, ap, arith, Err}
use Rattle.plain_values.proofs.Common.{keys_of}
use Rattle.lens_values.specs.Repeats.{count_of}
use Rattle.view_lang.proofs.parsing.definitions.columns_of.Goals as goal

pub unreachable-requires : goal.unreachable-requires
unreachable-requires c =
    let name = c.in-Err-Twice.field-0-0 in
    let repeated = c.new.ensures.twice name (c.in-Err-Twice.is ∙ ap Err c.in-Err-Twice.field-0-is) in
    omega (arith, repeated.twice, ap (λ cs. count_of name (keys_of cs)) c.into_list.ensures.list, c.into_list.ensures.distinct name)
