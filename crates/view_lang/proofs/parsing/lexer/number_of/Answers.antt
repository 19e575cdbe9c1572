use Rattle.std.proofs.Common.{◌∙◌, ap, option_map}
use Rattle.grammar_specs.specs.Common.{integer}
use Rattle.view_lang.proofs.Numbers.{parsed_integer}
use Rattle.view_lang.proofs.parsing.lexer.number_of.Goals as goal

pub returns : goal.returns
returns c = ap (option_map integer) c.ok.ensures.value ∙ parsed_integer c.args.text.now c.parse.result c.parse.ensures.value.0 c.requires
