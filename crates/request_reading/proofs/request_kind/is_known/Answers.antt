use Rattle.std.proofs.Common.{◌∙◌, rules}
use Rattle.plain_values.proofs.Common.{YieldsList-from_slice, any_from_yields_List}
use Rattle.server_specs.specs.Common.{is_key}
use Rattle.request_reading.proofs.Wanted.{among_borrowed}
use Rattle.request_reading.proofs.request_kind.is_known.Goals as goal
use borrow.Author.Tests.{tests}

pub returns : goal.returns
returns c =
    any_from_yields_List (λ known. is_key c.args.name.now known.now) _ _ _ c.any.ensures.ran (YieldsList-from_slice c.args.names.now cc) (λ x b q k. search (rules, tests))
    ∙ among_borrowed c.args.name.now c.args.names.now
