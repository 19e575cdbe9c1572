use Rattle.std.proofs.Common.{◌∙◌, ◌++◌, ◌∷◌, [], ap}
use Rattle.reply_printing.proofs.Lines.{object_ended}
use Rattle.reply_printing.proofs.printing.ended.Goals as goal

pub returns : goal.returns
returns c =
    c.made.ensures ∙ c.in_ok-push.ensures.items ∙ ap (λ l. l ++ 10 ∷ []) (c.in_ok-bytes.ensures ∙ object_ended c.in_ok-end_object.ensures)
