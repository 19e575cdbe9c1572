use Rattle.std.proofs.Common.{◌∙◌, rules}
use Rattle.plain_values.proofs.Common.{YieldsList-from_slice, any_from_yields_List}
use Rattle.server_specs.specs.Common.{is_key}
use Rattle.request_reading.proofs.Columns.{keys_any}
use Rattle.request_reading.proofs.rows.is_column.Goals as goal
use borrow.Author.Tests.{tests}

pub returns : goal.returns
returns c =
    any_from_yields_List (λ e. is_key c.args.name.now e.0) _ _ _ c.any.ensures.ran (YieldsList-from_slice c.args.columns.now cc) (λ x b q k. search (rules, tests))
    ∙ keys_any c.args.name.now c.args.columns.now
