use Rattle.std.proofs.Common.{false, refl, rules}
use Rattle.json.specs.Token.{key}
use Rattle.json_text.proofs.Escapes.{escape_name}
use Rattle.json_text.proofs.Tokens.{bytes_follow, ended_as, token_begun}
use Rattle.json_text.proofs.json_text.JsonText.name_key.Goals as goal

pub put_plain-requires : goal.put_plain-requires
put_plain-requires c = rw c.as_bytes.ensures.value (escape_name _ c.as_bytes.ensures.name)

pub returns : goal.returns
returns c =
    let plain = rw c.as_bytes.ensures.value at c.in_ok-put_plain.ensures in
    token_begun (key c.args.name.now) refl (ended_as false (bytes_follow c.in_ok-put_comma.ensures (bytes_follow plain c.in_ok-put_byte.ensures)) (search rules) refl)
