use Rattle.std.proofs.Common.{refl}
use Rattle.plain_values.proofs.Common.{on_ok_weaker}
use Rattle.json.specs.Token as token
use Rattle.json_text.proofs.Tokens.{token_begun}
use Rattle.json_text.proofs.json_text.JsonText.null.Goals as goal

pub returns : goal.returns
returns c = on_ok_weaker c.word.result (λ added. token_begun token.null refl added) c.word.ensures
