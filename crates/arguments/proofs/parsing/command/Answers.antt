use Rattle.std.proofs.Common.{◌∙◌, ap₂}
use Rattle.clap.specs.Simple.{with_rule}
use Rattle.arguments.proofs.ParsingLemmas.{extended}
use Rattle.arguments.proofs.parsing.command.Goals as goal

pub returns : goal.returns
returns c =
    let one = c.in_ok-command.ensures.shape c.option.ensures.local ∙ ap₂ with_rule c.new.ensures.app c.option.ensures.rule in
    let two = c.in_ok-command-2.ensures.shape c.option-2.ensures.local ∙ ap₂ with_rule one c.option-2.ensures.rule in
    extended c.in_ok-command-2.command c.option-3.result c.arg-3.result _ _ c.arg-3.ensures two c.option-3.ensures.local c.option-3.ensures.rule
