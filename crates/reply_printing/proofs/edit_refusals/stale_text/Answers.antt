use Rattle.std.proofs.Common.{◌≡◌, IfOk, subst, sym}
use Rattle.server_specs.specs.Common.{text}
use Rattle.server_specs.specs.EditRefusal as refusals
use Rattle.reply_printing.specs.Printing.{json_line}
use Rattle.reply_printing.proofs.RefusalTokens.{edit_refused}
use Rattle.reply_printing.proofs.edit_refusals.stale_text.Goals as goal

pub returns : goal.returns
unfolding text
returns c = subst (λ d. IfOk c.refused_text.result (λ reply. reply ≡ json_line d)) (sym (edit_refused c.args.edit (refusals.stale c.args.changed_at c.args.version))) c.refused_text.ensures
