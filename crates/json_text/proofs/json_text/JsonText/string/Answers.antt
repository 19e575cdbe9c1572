use Rattle.std.proofs.Common.{true, refl, rules}
use Rattle.json.specs.Token.{string}
use Rattle.json_text.proofs.Tokens.{bytes_follow, ended_as, token_begun}
use Rattle.json_text.proofs.json_text.JsonText.string.Goals as goal

pub returns : goal.returns
returns c = token_begun (string c.args.text.now) refl (ended_as true (bytes_follow c.in_ok-put_comma.ensures c.in_ok-put_quoted.ensures) (search rules) refl)
