use Rattle.std.proofs.Common.{◌≡◌, ◌∷◌, IfOk, ap, subst}
use Rattle.json.specs.Token.{begin_object}
use Rattle.serde_json.specs.Data.{object}
use Rattle.reply_printing.specs.Refusals.{parts_data}
use Rattle.reply_printing.proofs.Lines.{object_line}
use Rattle.reply_printing.proofs.RefusalTokens.{parts_whole}
use Rattle.reply_printing.proofs.refusals.refused_text.Goals as goal

pub returns : goal.returns
returns c =
    subst (λ line. IfOk c.ended.result (λ reply. reply ≡ line))
    (object_line (object (parts_data c.args.parts.now)) c.in_ok-out.ensures.bytes c.in_ok-out.ensures.after_value c.in_ok-print_parts.ensures
    (ap (λ ts. begin_object ∷ ts) (parts_whole c.args.parts.now)))
    c.ended.ensures
