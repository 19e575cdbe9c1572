use Rattle.std.proofs.Common.{refl}
use Rattle.plain_values.proofs.Common.{on_ok_weaker}
use Rattle.json.specs.Token as token
use Rattle.json_text.proofs.Tokens.{token_ended}
use Rattle.json_text.proofs.json_text.JsonText.end_array.Goals as goal

pub returns : goal.returns
returns c = on_ok_weaker c.end.result (λ added. token_ended token.end_array refl added) c.end.ensures
