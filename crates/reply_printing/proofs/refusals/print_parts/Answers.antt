use Rattle.std.proofs.Common.{ap, arith, sym}
use Rattle.plain_values.proofs.Common.{take_all}
use Rattle.reply_printing.specs.Refusals.{parts_tokens}
use Rattle.reply_printing.proofs.RefusalTokens.{adds_none, parts_more}
use Rattle.json_text.proofs.Tokens.{follow}
use Rattle.reply_printing.proofs.Tokens.{adds_same}
use Rattle.reply_printing.proofs.refusals.print_parts.Goals as goal

pub loop-part-init : goal.loop-part-init
loop-part-init c = adds_none

pub loop-part-preserved : goal.loop-part-preserved
loop-part-preserved c =
    adds_same _ (sym (parts_more c.args.parts.now c.loop-part.part-index c.part-item.result c.loop-part-test.true c.part-item.is))
    (follow c.loop-part.invariant c.in_ok-print_part.ensures)

pub returns : goal.returns
returns c = adds_same (parts_tokens c.args.parts.now) (ap parts_tokens (take_all c.loop-part.part-index c.args.parts.now (omega arith))) c.loop-part.invariant
