use Rattle.std.proofs.Common.{false, refl, rules}
use Rattle.json.specs.Token.{key}
use Rattle.json_text.proofs.Tokens.{bytes_follow, ended_as, token_begun}
use Rattle.json_text.proofs.json_text.JsonText.key.Goals as goal

pub returns : goal.returns
returns c =
    token_begun (key c.args.name.now) refl
    (ended_as false (bytes_follow c.in_ok-put_comma.ensures (bytes_follow c.in_ok-put_quoted.ensures c.in_ok-put_byte.ensures)) (search rules) refl)
