use Rattle.std.proofs.Common.{arith}
use Rattle.plain_values.proofs.Common.{IsCharBoundary-after_ascii}
use Rattle.view_lang.specs.TokenViews.{token_view}
use Rattle.view_lang.proofs.QuoteFronts.{QuoteFront, found_text}
use Rattle.view_lang.proofs.parsing.lexer.text_at.Goals as goal

pub range_from-requires : goal.range_from-requires
range_from-requires c = λ _. IsCharBoundary-after_ascii c.args.text.now c.args.at c.utf8.text c.requires.within (omega (arith, c.requires.quote))

-- what was found
found : (c : goal.In-Some) → QuoteFront c.args.text.now c.args.at c.in-Some.left (token_view c.in-Some.token)
found c =
    found_text c.args.text.now c.range_from.result.now c.args.at c.in_ok-token.field-0 c.in-Some.token c.in-Some.left c.requires.within c.requires.quote c.range_from.ensures.value c.in_ok-token.ensures c.in-Some.is

pub overflow_sub-result-in-Some : goal.overflow_sub-result-in-Some
overflow_sub-result-in-Some c = (found c).left_within

pub returns-in-Some : goal.returns-in-Some
returns-in-Some c = ((found c).value, ((found c).some, (found c).within))
