use Rattle.std.proofs.Common.{◌∙◌, ap, sym}
use Rattle.plain_values.proofs.Common.{list_all}
use Rattle.json.specs.Run.{is_plain}
use Rattle.json_text.proofs.Escapes.{escape_plain}
use Rattle.json_text.proofs.json_text.JsonText.put_quoted.Goals as goal

pub put_plain-requires : goal.put_plain-requires
put_plain-requires c =
    rw c.as_bytes-then-are_plain.ensures.value
    (escape_plain c.args.text.now (ap (list_all is_plain) (sym c.as_bytes.ensures.value) ∙ sym c.are_plain.ensures ∙ c.if-are_plain.true))
