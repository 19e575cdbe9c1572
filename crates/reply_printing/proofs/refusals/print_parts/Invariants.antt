use Rattle.std.proofs.Common.{take}
use Rattle.reply_printing.specs.Printing.{Adds}
use Rattle.reply_printing.specs.Refusals.{parts_tokens}
use Rattle.reply_printing.proofs.refusals.print_parts.Given as goal

abbrev pub invariant-loop-part : goal.invariant-loop-part
invariant-loop-part l = Adds l.fn.out l.out (parts_tokens (take l.part-index l.parts))
