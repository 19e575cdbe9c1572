use Rattle.std.proofs.Common.{refl}
use Rattle.plain_values.proofs.Common.{on_ok_weaker}
use Rattle.json.specs.Token as token
use Rattle.json_text.proofs.Tokens.{token_begun}
use Rattle.json_text.proofs.json_text.JsonText.begin_object.Goals as goal

pub returns : goal.returns
returns c = on_ok_weaker c.begin.result (λ added. token_begun token.begin_object refl added) c.begin.ensures
